use Rattle.std.proofs.Common.{◌≡◌, ◌+◌, ◌<◌, ◌≤◌, not, List, ◌∷◌, map, take, drop, length, get_or, Option, IfSome, sym, ap, subst, ◌∙◌}
use Rattle.std.specs.List.{filter}
use Rattle.qls_site.specs.Disk.{Disk}
use Rattle.qls_record.specs.declared.Got.{Got}
use Rattle.qls_record.specs.Record.{is_filler}
use Rattle.qls_meaning.specs.Reading.{Read, read_of}
use Rattle.qls_log.specs.Logs.{LogState}
use Rattle.qls_log.specs.Reads.{IsRead}
use Rattle.qls_log.specs.Soundness.{IsUndamaged}
use Rattle.qls_prepared.specs.Lists.{IsSound, WholeBy, rid_of_log}
use Rattle.qls_prepared.specs.Table.{TableState}
use Rattle.qls_prepared.proofs.Sounds.{list_with}
use Rattle.qls_prepared.proofs.Opened.{IsMadeOf, GoesOn, goes_on, left_here, done_here, made_of_all, opened_sound, opened_whole, opened_is}
use Rattle.qls_prepared.proofs.list.PreparedList.open.Goals as goal

pub loop-got-preserved : goal.loop-got-preserved
loop-got-preserved c =
    let gs : List Got = c.args.reads.now in
    let g : Got = c.got-item.result in
    let k = c.loop-got.got-index in
    let last = rid_of_log c.args.log in
    let t : TableState = c.loop-got.entries in
    let u : TableState = c.apply.new.self in
    let same = c.as_slice-got-items.ensures.same in
    let within : k < length gs = subst (λ (xs : List Got). k < length xs) same c.loop-got-test.true in
    let item : g ≡ get_or gs k g = subst (λ (xs : List Got). g ≡ get_or xs k g) same c.got-item.is in
    let here : GoesOn last (take k gs) (g ∷ drop (k + 1) gs) t = subst (λ (xs : List Got). GoesOn last (take k gs) xs t) (left_here gs k g within item) c.loop-got.invariant.goes in
    record {
      goes =
          subst (λ (xs : List Got). GoesOn last xs (drop (k + 1) gs) u) (sym (done_here gs k g within item))
          (goes_on last (take k gs) g (drop (k + 1) gs) t u here c.in_ok-apply.ensures.xid c.in_ok-apply.ensures.entries c.in_ok-apply.ensures.held);
      log = c.loop-got.invariant.log;
    }

pub returns-clause-sound : goal.returns-clause-sound
returns-clause-sound c =
    let gs : List Got = c.args.reads.now in
    let k = c.loop-got.got-index in
    let all : length gs ≤ k = subst (λ (xs : List Got). length xs ≤ k) c.as_slice-got-items.ensures.same c.loop-got-test.false in
    let m : IsMadeOf (rid_of_log c.args.log) (map read_of gs) c.loop-got.entries.entries c.loop-got.entries.held = made_of_all (rid_of_log c.args.log) gs k c.loop-got.entries all c.loop-got.invariant.goes in
    subst (λ (o : Option LogState). IsSound (list_with c.args.home o c.loop-got.entries.entries c.loop-got.entries.held)) (sym c.loop-got.invariant.log)
    (opened_sound c.args.home c.args.log gs c.loop-got.entries c.requires.home c.requires.own c.requires.none m)

pub invariant_of-result : goal.invariant_of-result
invariant_of-result c = λ _.
    let gs : List Got = c.args.reads.now in
    let k = c.loop-got.got-index in
    let all : length gs ≤ k = subst (λ (xs : List Got). length xs ≤ k) c.as_slice-got-items.ensures.same c.loop-got-test.false in
    let m : IsMadeOf (rid_of_log c.args.log) (map read_of gs) c.loop-got.entries.entries c.loop-got.entries.held = made_of_all (rid_of_log c.args.log) gs k c.loop-got.entries all c.loop-got.invariant.goes in
    subst (λ (o : Option LogState). IsSound (list_with c.args.home o c.loop-got.entries.entries c.loop-got.entries.held)) (sym c.loop-got.invariant.log)
    (opened_sound c.args.home c.args.log gs c.loop-got.entries c.requires.home c.requires.own c.requires.none m)

pub returns-clause-list : goal.returns-clause-list
returns-clause-list c =
    let gs : List Got = c.args.reads.now in
    let k = c.loop-got.got-index in
    let all : length gs ≤ k = subst (λ (xs : List Got). length xs ≤ k) c.as_slice-got-items.ensures.same c.loop-got-test.false in
    let m : IsMadeOf (rid_of_log c.args.log) (map read_of gs) c.loop-got.entries.entries c.loop-got.entries.held = made_of_all (rid_of_log c.args.log) gs k c.loop-got.entries all c.loop-got.invariant.goes in
    ap (λ (o : Option LogState). list_with c.args.home o c.loop-got.entries.entries c.loop-got.entries.held) c.loop-got.invariant.log
    ∙ opened_is c.args.home c.args.log gs c.loop-got.entries (rid_of_log c.args.log) m

pub returns-clause-whole : goal.returns-clause-whole
returns-clause-whole c =
    let gs : List Got = c.args.reads.now in
    let k = c.loop-got.got-index in
    let all : length gs ≤ k = subst (λ (xs : List Got). length xs ≤ k) c.as_slice-got-items.ensures.same c.loop-got-test.false in
    let m : IsMadeOf (rid_of_log c.args.log) (map read_of gs) c.loop-got.entries.entries c.loop-got.entries.held = made_of_all (rid_of_log c.args.log) gs k c.loop-got.entries all c.loop-got.invariant.goes in
    subst (λ (o : Option LogState). IfSome c.args.log (λ l. (d : Disk) (kept : List Read) → IsRead l kept d → IsUndamaged l d → filter (λ r. not (is_filler r.what.kind)) kept ≡ map read_of gs → WholeBy o c.loop-got.entries.entries c.loop-got.entries.held d))
    (sym c.loop-got.invariant.log) (opened_whole (rid_of_log c.args.log) c.args.log gs c.loop-got.entries m)
