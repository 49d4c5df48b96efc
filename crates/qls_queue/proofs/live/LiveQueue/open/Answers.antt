use Rattle.std.proofs.Common.{◌≡◌, ◌+◌, ◌<◌, ◌≤◌, false, List, [], ◌∷◌, map, drop, length, get_or, sym, ap, ◌∙◌, subst}
use Rattle.std.specs.List.{AllByRecursion}
use Rattle.qls_record.specs.declared.Got.{Got}
use Rattle.qls_meaning.specs.Reading.{read_of}
use Rattle.qls_enqmap.specs.declared.Held.{Held}
use Rattle.qls_log.specs.Logs.{LogState, IsSound as IsSoundLog}
use Rattle.qls_replay.specs.Held.{held_after, held_after_all}
use Rattle.qls_queue.specs.Records.{HasXid}
use Rattle.qls_model.specs.Sound.{IsNumbered}
use Rattle.qls_queue.specs.Live.{live}
use Rattle.qls_queue.proofs.Numbers.{opened_numbered}
use Rattle.qls_queue.proofs.Xids.{xids_after}
use Rattle.qls_queue.proofs.Opened.{GoesOn, here, goes_on, all_held, opened_whole}
use Rattle.qls_queue.proofs.live.LiveQueue.open.Goals as goal

pub loop-got-preserved : goal.loop-got-preserved
loop-got-preserved c =
    let gs : List Got = c.args.reads.now in
    let g : Got = c.got-item.result in
    let hs : List Held = c.loop-got.tables.held in
    let rest : List Got = drop (c.loop-got.got-index + 1) gs in
    let k = c.loop-got.got-index in
    let same = c.as_slice-got-items.ensures.same in
    let cut : drop k gs ≡ g ∷ rest = here gs k g (subst (λ (xs : List Got). k < length xs) same c.loop-got-test.true) (subst (λ (xs : List Got). g ≡ get_or xs k g) same c.got-item.is) in
    let next : c.apply_read.new.tables.held ≡ held_after g.head.kind (read_of g) hs = c.in_ok-apply_read.ensures.held in
    record {
      held = ap (held_after_all (map read_of rest)) next ∙ sym (ap (λ (xs : List Got). held_after_all (map read_of xs) hs) cut) ∙ c.loop-got.invariant.held;
      goes = goes_on c.args.log.rid hs c.apply_read.new.tables.held g rest (subst (GoesOn c.args.log.rid hs) cut c.loop-got.invariant.goes) next;
      xids = subst (AllByRecursion (λ h. HasXid h.status)) (sym next) (xids_after g.head.kind (read_of g) hs c.in_ok-apply_read.ensures.xid c.loop-got.invariant.xids);
    }

pub returns-clause-whole : goal.returns-clause-whole
returns-clause-whole c =
    let k = c.loop-got.got-index in
    let all : length c.args.reads.now ≤ k = subst (λ (xs : List Got). length xs ≤ k) c.as_slice-got-items.ensures.same c.loop-got-test.false in
    opened_whole c.args.log c.loop-got.tables.held c.args.reads.now false (all_held c.args.reads.now k c.loop-got.tables.held all c.loop-got.invariant.held)

pub returns-clause-numbered : goal.returns-clause-numbered
returns-clause-numbered c =
    let gs : List Got = c.args.reads.now in
    let k = c.loop-got.got-index in
    let all : length gs ≤ k = subst (λ (xs : List Got). length xs ≤ k) c.as_slice-got-items.ensures.same c.loop-got-test.false in
    let held : c.loop-got.tables.held ≡ held_after_all (map read_of gs) [] = all_held gs k c.loop-got.tables.held all c.loop-got.invariant.held in
    let log : IsSoundLog c.args.log = subst (λ (l : LogState). l.ended ≡ false → IsSoundLog l) c.log.view_is c.log.invariant c.requires.unended in
    subst (λ (hs : List Held). IsNumbered (live c.args.log hs false).queue) (sym held) (opened_numbered c.args.log gs false c.requires.given.0 log.rid c.requires.given.1 c.requires.given.2)
