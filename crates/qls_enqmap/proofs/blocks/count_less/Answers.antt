use Rattle.qls_enqmap.proofs.blocks.count_less.Goals as goal

pub returns : goal.returns
returns c = record {
  counted = λ es us a r n g. record {
    small = c.one_less.ensures.counted es us a.small r n g;
    middle = c.one_less-2.ensures.counted es us a.middle r n g;
    large = c.one_less-3.ensures.counted es us a.large r n g;
    huge = c.one_less-4.ensures.counted es us a.huge r n g;
  };
}
