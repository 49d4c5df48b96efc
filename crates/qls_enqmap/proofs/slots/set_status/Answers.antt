use Rattle.std.proofs.Common.{ap}
use Rattle.qls_enqmap.proofs.Writes.{status_written, no_status}
use Rattle.qls_enqmap.proofs.slots.set_status.Goals as goal

pub returns-in-Some : goal.returns-in-Some
returns-in-Some c =
    let w = c.give_status.new.slot in
    let a = status_written c.args.rid c.args.status c.in-Some.slot.now w c.args.slots.now.entries (c.get_mut.follows.lender w).entries c.requires.rises c.in-Some.ensures.value
    c.give_status.ensures.given (c.get_mut.follows.holds w).0 in
    record { set = a.set; rises = a.rises; occupied = a.occupied; long = a.long; before = a.before }

pub returns-in-None : goal.returns-in-None
returns-in-None c =
    let a = no_status c.args.rid c.args.status c.args.slots.now.entries c.get_mut.follows.lender-at-none.entries c.requires.rises c.in-None.ensures.value
    (ap (λ m. m.entries) c.get_mut.follows.holds-at-none) in
    record { set = a.set; rises = a.rises; occupied = a.occupied; long = a.long; before = a.before }
