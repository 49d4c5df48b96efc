use Rattle.std.proofs.Common.{rules, ◌≡◌, ◌∙◌, List, [], ◌∷◌, ◌++◌, map, Option, Some, None, IfSome, sym, ap, subst, append_assoc}
use Rattle.std.specs.List.{AllByRecursion}
use Rattle.std.specs.Vec.Iter.{into_iter_items}
use Rattle.qls_site.specs.Content.{Content}
use Rattle.qls_scan.specs.declared.answers.HeadedFile.{HeadedFile}
use Rattle.qls_scan.specs.Heads.{HasLegalHeader}
use Rattle.qls_pool.specs.Files.{HeadedFile as LinkedFile, OnDisk, RestsThere}
use Rattle.qls_reading.specs.ReadLogs.{linked}
use Rattle.qls_reading.proofs.trim.adopt_all.Goals as goal

abbrev Rest : List HeadedFile → Option Content → Type 0
Rest fs told = IfSome told (OnDisk (λ d. AllByRecursion (λ h. RestsThere h d) (map linked fs)))

first_rests : (f : HeadedFile) (fs : List HeadedFile) (told : Option Content) → Rest (f ∷ fs) told → IfSome told (OnDisk (RestsThere (linked f)))
first_rests f fs None h = tt
first_rests f fs (Some c) h = h.0

others_rest : (f : HeadedFile) (fs : List HeadedFile) (told : Option Content) → Rest (f ∷ fs) told → Rest fs told
others_rest f fs None h = tt
others_rest f fs (Some c) h = h.1

pub loop-file-init : goal.loop-file-init
loop-file-init g c =
    let items : into_iter_items c.into_iter-file-iterator.result ≡ c.args.files.items = search rules in
    record {
      len = search rules;
      done = ap (λ (hs : List LinkedFile). hs ++ map linked (into_iter_items c.into_iter-file-iterator.result)) c.new-all.ensures.items ∙ ap (map linked) items;
      legal = subst (AllByRecursion HasLegalHeader) (sym items) c.requires.legal;
      there = subst (λ (fs : List HeadedFile). Rest fs (g.S.Site.told c.args.site.now)) (sym items) c.requires.there;
    }

pub adopt-requires-clause-there : goal.adopt-requires-clause-there
adopt-requires-clause-there g c =
    let f : HeadedFile = c.in-Some.file in
    let rest : List HeadedFile = into_iter_items c.next.new.self in
    let cut : into_iter_items c.loop-file.file-iterator ≡ f ∷ rest = search rules in
    first_rests f rest (g.S.Site.told c.args.site.now) (subst (λ (fs : List HeadedFile). Rest fs (g.S.Site.told c.args.site.now)) cut c.loop-file.invariant.there)

pub loop-file-preserved : goal.loop-file-preserved
loop-file-preserved g c =
    let f : HeadedFile = c.in-Some.file in
    let rest : List HeadedFile = into_iter_items c.next.new.self in
    let cut : into_iter_items c.loop-file.file-iterator ≡ f ∷ rest = search rules in
    let so = c.loop-file.invariant in
    let legal : AllByRecursion HasLegalHeader (f ∷ rest) = subst (AllByRecursion HasLegalHeader) cut so.legal in
    let old : List LinkedFile = c.loop-file.all.items in
    let pushed : c.push.new.self.items ≡ old ++ linked f ∷ [] = search rules in
    record {
      len = search rules;
      done = ap (λ (hs : List LinkedFile). hs ++ map linked rest) pushed ∙ append_assoc old (linked f ∷ []) (map linked rest) ∙ ap (λ (fs : List HeadedFile). old ++ map linked fs) (sym cut) ∙ so.done;
      legal = legal.1;
      there = others_rest f rest (g.S.Site.told c.args.site.now) (subst (λ (fs : List HeadedFile). Rest fs (g.S.Site.told c.args.site.now)) cut so.there);
    }
