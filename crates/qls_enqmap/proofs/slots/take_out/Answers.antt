use Rattle.std.proofs.Common.{ap, sym, subst}
use Rattle.qls_enqmap.proofs.Writes.{AfterTake, taken_out, none_taken}
use Rattle.qls_enqmap.proofs.slots.take_out.Goals as goal

pub returns-in-Some : goal.returns-in-Some
returns-in-Some c =
    let w = c.take.new.self in
    let v = c.in-Some.slot.now in
    let a = taken_out c.args.rid v w c.args.slots.now.entries (c.get_mut.follows.lender w).entries c.requires.rises c.in-Some.ensures.value c.take.ensures.after (c.get_mut.follows.holds w).0 in
    let b = subst (λ o. AfterTake c.args.rid o c.args.slots.now.entries (c.get_mut.follows.lender w).entries) (sym c.take.ensures.value) a in
    record { found = b.found; left = b.left; rises = b.rises; holes = b.holes; long = b.long; unknown = b.unknown; loses = b.loses; fewer = b.fewer }

pub returns-in-None : goal.returns-in-None
returns-in-None c =
    let a = none_taken c.args.rid c.args.slots.now.entries c.get_mut.follows.lender-at-none.entries c.requires.rises c.in-None.ensures.value
    (ap (λ m. m.entries) c.get_mut.follows.holds-at-none) in
    record { found = a.found; left = a.left; rises = a.rises; holes = a.holes; long = a.long; unknown = a.unknown; loses = a.loses; fewer = a.fewer }
