use Rattle.std.proofs.Common.{sym, subst}
use Rattle.qls_model.specs.declared.machine.Command.TheVariants as command
use Rattle.qls_store.proofs.Puts.{put_again}
use Rattle.qls_store.proofs.Running.{Runs}
use Rattle.qls_store.proofs.store.Store.run_command.Goals as goal

pub returns-in-Queue : goal.returns-in-Queue
returns-in-Queue g c =
    let k : Runs g.S.Site.told g.S.Site.faults g.N.Serials.drawn g.N.Serials.faults c.args.self (command.Queue c.in-Queue.name c.in-Queue.home) c.args.site.now c.make_queue.new.site c.args.serials.now c.make_queue.new.serials (c.make_queue.result) = record { stepped = c.make_queue.ensures.stepped; ended = c.make_queue.ensures.ended; still = c.make_queue.ensures.still; store = c.make_queue.ensures.store; rid = c.make_queue.ensures.rid; told = c.make_queue.ensures.told; drawn = c.make_queue.ensures.drawn; leaves = c.make_queue.ensures.leaves; writes = c.make_queue.ensures.writes; pools = c.make_queue.ensures.pools; homes = c.make_queue.ensures.homes; refused = c.make_queue.ensures.refused; spent = c.make_queue.ensures.spent; causes = c.make_queue.ensures.causes } in
    let r : Runs g.S.Site.told g.S.Site.faults g.N.Serials.drawn g.N.Serials.faults c.args.self (c.args.command) c.args.site.now c.make_queue.new.site c.args.serials.now c.make_queue.new.serials (c.make_queue.result) = subst (λ m. Runs g.S.Site.told g.S.Site.faults g.N.Serials.drawn g.N.Serials.faults c.args.self (m) c.args.site.now c.make_queue.new.site c.args.serials.now c.make_queue.new.serials (c.make_queue.result)) (sym c.in-Queue.is) k in
    record { stepped = r.stepped; ended = r.ended; still = r.still; store = r.store; rid = r.rid; told = r.told; drawn = r.drawn; leaves = r.leaves; writes = r.writes; pools = r.pools; homes = r.homes; refused = r.refused; spent = r.spent; causes = r.causes }

pub returns-in-Drop : goal.returns-in-Drop
returns-in-Drop g c =
    let k : Runs g.S.Site.told g.S.Site.faults g.N.Serials.drawn g.N.Serials.faults c.args.self (command.Drop c.in-Drop.name) c.args.site.now c.drop_queue.new.site c.args.serials.now c.drop_queue.new.serials (c.drop_queue.result) = record { stepped = c.drop_queue.ensures.stepped; ended = c.drop_queue.ensures.ended; still = c.drop_queue.ensures.still; store = c.drop_queue.ensures.store; rid = c.drop_queue.ensures.rid; told = c.drop_queue.ensures.told; drawn = c.drop_queue.ensures.drawn; leaves = c.drop_queue.ensures.leaves; writes = c.drop_queue.ensures.writes; pools = c.drop_queue.ensures.pools; homes = c.drop_queue.ensures.homes; refused = c.drop_queue.ensures.refused; spent = c.drop_queue.ensures.spent; causes = c.drop_queue.ensures.causes } in
    let r : Runs g.S.Site.told g.S.Site.faults g.N.Serials.drawn g.N.Serials.faults c.args.self (c.args.command) c.args.site.now c.drop_queue.new.site c.args.serials.now c.drop_queue.new.serials (c.drop_queue.result) = subst (λ m. Runs g.S.Site.told g.S.Site.faults g.N.Serials.drawn g.N.Serials.faults c.args.self (m) c.args.site.now c.drop_queue.new.site c.args.serials.now c.drop_queue.new.serials (c.drop_queue.result)) (sym c.in-Drop.is) k in
    record { stepped = r.stepped; ended = r.ended; still = r.still; store = r.store; rid = r.rid; told = r.told; drawn = r.drawn; leaves = r.leaves; writes = r.writes; pools = r.pools; homes = r.homes; refused = r.refused; spent = r.spent; causes = r.causes }

pub returns-in-Take : goal.returns-in-Take
returns-in-Take g c =
    let k : Runs g.S.Site.told g.S.Site.faults g.N.Serials.drawn g.N.Serials.faults c.args.self (command.Take c.in-Take.name c.in-Take.number c.in-Take.xid) c.args.site.now c.take.new.site c.args.serials.now c.take.new.serials (c.take.result) = record { stepped = c.take.ensures.stepped; ended = c.take.ensures.ended; still = c.take.ensures.still; store = c.take.ensures.store; rid = c.take.ensures.rid; told = c.take.ensures.told; drawn = c.take.ensures.drawn; leaves = c.take.ensures.leaves; writes = c.take.ensures.writes; pools = c.take.ensures.pools; homes = c.take.ensures.homes; refused = c.take.ensures.refused; spent = c.take.ensures.spent; causes = c.take.ensures.causes } in
    let r : Runs g.S.Site.told g.S.Site.faults g.N.Serials.drawn g.N.Serials.faults c.args.self (c.args.command) c.args.site.now c.take.new.site c.args.serials.now c.take.new.serials (c.take.result) = subst (λ m. Runs g.S.Site.told g.S.Site.faults g.N.Serials.drawn g.N.Serials.faults c.args.self (m) c.args.site.now c.take.new.site c.args.serials.now c.take.new.serials (c.take.result)) (sym c.in-Take.is) k in
    record { stepped = r.stepped; ended = r.ended; still = r.still; store = r.store; rid = r.rid; told = r.told; drawn = r.drawn; leaves = r.leaves; writes = r.writes; pools = r.pools; homes = r.homes; refused = r.refused; spent = r.spent; causes = r.causes }

pub returns-in-Begin : goal.returns-in-Begin
returns-in-Begin g c =
    let k : Runs g.S.Site.told g.S.Site.faults g.N.Serials.drawn g.N.Serials.faults c.args.self (command.Begin c.in-Begin.xid) c.args.site.now c.begin.new.site c.args.serials.now c.begin.new.serials (c.begin.result) = record { stepped = c.begin.ensures.stepped; ended = c.begin.ensures.ended; still = c.begin.ensures.still; store = c.begin.ensures.store; rid = c.begin.ensures.rid; told = c.begin.ensures.told; drawn = c.begin.ensures.drawn; leaves = c.begin.ensures.leaves; writes = c.begin.ensures.writes; pools = c.begin.ensures.pools; homes = c.begin.ensures.homes; refused = c.begin.ensures.refused; spent = c.begin.ensures.spent; causes = c.begin.ensures.causes } in
    let r : Runs g.S.Site.told g.S.Site.faults g.N.Serials.drawn g.N.Serials.faults c.args.self (c.args.command) c.args.site.now c.begin.new.site c.args.serials.now c.begin.new.serials (c.begin.result) = subst (λ m. Runs g.S.Site.told g.S.Site.faults g.N.Serials.drawn g.N.Serials.faults c.args.self (m) c.args.site.now c.begin.new.site c.args.serials.now c.begin.new.serials (c.begin.result)) (sym c.in-Begin.is) k in
    record { stepped = r.stepped; ended = r.ended; still = r.still; store = r.store; rid = r.rid; told = r.told; drawn = r.drawn; leaves = r.leaves; writes = r.writes; pools = r.pools; homes = r.homes; refused = r.refused; spent = r.spent; causes = r.causes }

pub returns-in-Prepare : goal.returns-in-Prepare
returns-in-Prepare g c =
    let k : Runs g.S.Site.told g.S.Site.faults g.N.Serials.drawn g.N.Serials.faults c.args.self (command.Prepare c.in-Prepare.xid) c.args.site.now c.prepare.new.site c.args.serials.now c.prepare.new.serials (c.prepare.result) = record { stepped = c.prepare.ensures.stepped; ended = c.prepare.ensures.ended; still = c.prepare.ensures.still; store = c.prepare.ensures.store; rid = c.prepare.ensures.rid; told = c.prepare.ensures.told; drawn = c.prepare.ensures.drawn; leaves = c.prepare.ensures.leaves; writes = c.prepare.ensures.writes; pools = c.prepare.ensures.pools; homes = c.prepare.ensures.homes; refused = c.prepare.ensures.refused; spent = c.prepare.ensures.spent; causes = c.prepare.ensures.causes } in
    let r : Runs g.S.Site.told g.S.Site.faults g.N.Serials.drawn g.N.Serials.faults c.args.self (c.args.command) c.args.site.now c.prepare.new.site c.args.serials.now c.prepare.new.serials (c.prepare.result) = subst (λ m. Runs g.S.Site.told g.S.Site.faults g.N.Serials.drawn g.N.Serials.faults c.args.self (m) c.args.site.now c.prepare.new.site c.args.serials.now c.prepare.new.serials (c.prepare.result)) (sym c.in-Prepare.is) k in
    record { stepped = r.stepped; ended = r.ended; still = r.still; store = r.store; rid = r.rid; told = r.told; drawn = r.drawn; leaves = r.leaves; writes = r.writes; pools = r.pools; homes = r.homes; refused = r.refused; spent = r.spent; causes = r.causes }

pub returns-in-Commit : goal.returns-in-Commit
returns-in-Commit g c =
    let k : Runs g.S.Site.told g.S.Site.faults g.N.Serials.drawn g.N.Serials.faults c.args.self (command.Commit c.in-Commit.xid) c.args.site.now c.commit.new.site c.args.serials.now c.commit.new.serials (c.commit.result) = record { stepped = c.commit.ensures.stepped; ended = c.commit.ensures.ended; still = c.commit.ensures.still; store = c.commit.ensures.store; rid = c.commit.ensures.rid; told = c.commit.ensures.told; drawn = c.commit.ensures.drawn; leaves = c.commit.ensures.leaves; writes = c.commit.ensures.writes; pools = c.commit.ensures.pools; homes = c.commit.ensures.homes; refused = c.commit.ensures.refused; spent = c.commit.ensures.spent; causes = c.commit.ensures.causes } in
    let r : Runs g.S.Site.told g.S.Site.faults g.N.Serials.drawn g.N.Serials.faults c.args.self (c.args.command) c.args.site.now c.commit.new.site c.args.serials.now c.commit.new.serials (c.commit.result) = subst (λ m. Runs g.S.Site.told g.S.Site.faults g.N.Serials.drawn g.N.Serials.faults c.args.self (m) c.args.site.now c.commit.new.site c.args.serials.now c.commit.new.serials (c.commit.result)) (sym c.in-Commit.is) k in
    record { stepped = r.stepped; ended = r.ended; still = r.still; store = r.store; rid = r.rid; told = r.told; drawn = r.drawn; leaves = r.leaves; writes = r.writes; pools = r.pools; homes = r.homes; refused = r.refused; spent = r.spent; causes = r.causes }

pub returns-in-Abort : goal.returns-in-Abort
returns-in-Abort g c =
    let k : Runs g.S.Site.told g.S.Site.faults g.N.Serials.drawn g.N.Serials.faults c.args.self (command.Abort c.in-Abort.xid) c.args.site.now c.abort.new.site c.args.serials.now c.abort.new.serials (c.abort.result) = record { stepped = c.abort.ensures.stepped; ended = c.abort.ensures.ended; still = c.abort.ensures.still; store = c.abort.ensures.store; rid = c.abort.ensures.rid; told = c.abort.ensures.told; drawn = c.abort.ensures.drawn; leaves = c.abort.ensures.leaves; writes = c.abort.ensures.writes; pools = c.abort.ensures.pools; homes = c.abort.ensures.homes; refused = c.abort.ensures.refused; spent = c.abort.ensures.spent; causes = c.abort.ensures.causes } in
    let r : Runs g.S.Site.told g.S.Site.faults g.N.Serials.drawn g.N.Serials.faults c.args.self (c.args.command) c.args.site.now c.abort.new.site c.args.serials.now c.abort.new.serials (c.abort.result) = subst (λ m. Runs g.S.Site.told g.S.Site.faults g.N.Serials.drawn g.N.Serials.faults c.args.self (m) c.args.site.now c.abort.new.site c.args.serials.now c.abort.new.serials (c.abort.result)) (sym c.in-Abort.is) k in
    record { stepped = r.stepped; ended = r.ended; still = r.still; store = r.store; rid = r.rid; told = r.told; drawn = r.drawn; leaves = r.leaves; writes = r.writes; pools = r.pools; homes = r.homes; refused = r.refused; spent = r.spent; causes = r.causes }

pub returns-in-List : goal.returns-in-List
returns-in-List g c =
    let k : Runs g.S.Site.told g.S.Site.faults g.N.Serials.drawn g.N.Serials.faults c.args.self (command.List c.in-List.name) c.args.site.now c.list.new.site c.args.serials.now c.list.new.serials (c.list.result) = record { stepped = c.list.ensures.stepped; ended = c.list.ensures.ended; still = c.list.ensures.still; store = c.list.ensures.store; rid = c.list.ensures.rid; told = c.list.ensures.told; drawn = c.list.ensures.drawn; leaves = c.list.ensures.leaves; writes = c.list.ensures.writes; pools = c.list.ensures.pools; homes = c.list.ensures.homes; refused = c.list.ensures.refused; spent = c.list.ensures.spent; causes = c.list.ensures.causes } in
    let r : Runs g.S.Site.told g.S.Site.faults g.N.Serials.drawn g.N.Serials.faults c.args.self (c.args.command) c.args.site.now c.list.new.site c.args.serials.now c.list.new.serials (c.list.result) = subst (λ m. Runs g.S.Site.told g.S.Site.faults g.N.Serials.drawn g.N.Serials.faults c.args.self (m) c.args.site.now c.list.new.site c.args.serials.now c.list.new.serials (c.list.result)) (sym c.in-List.is) k in
    record { stepped = r.stepped; ended = r.ended; still = r.still; store = r.store; rid = r.rid; told = r.told; drawn = r.drawn; leaves = r.leaves; writes = r.writes; pools = r.pools; homes = r.homes; refused = r.refused; spent = r.spent; causes = r.causes }

pub returns-in-Doubt : goal.returns-in-Doubt
returns-in-Doubt g c =
    let k : Runs g.S.Site.told g.S.Site.faults g.N.Serials.drawn g.N.Serials.faults c.args.self (command.Doubt) c.args.site.now c.doubt.new.site c.args.serials.now c.doubt.new.serials (c.doubt.result) = record { stepped = c.doubt.ensures.stepped; ended = c.doubt.ensures.ended; still = c.doubt.ensures.still; store = c.doubt.ensures.store; rid = c.doubt.ensures.rid; told = c.doubt.ensures.told; drawn = c.doubt.ensures.drawn; leaves = c.doubt.ensures.leaves; writes = c.doubt.ensures.writes; pools = c.doubt.ensures.pools; homes = c.doubt.ensures.homes; refused = c.doubt.ensures.refused; spent = c.doubt.ensures.spent; causes = c.doubt.ensures.causes } in
    let r : Runs g.S.Site.told g.S.Site.faults g.N.Serials.drawn g.N.Serials.faults c.args.self (c.args.command) c.args.site.now c.doubt.new.site c.args.serials.now c.doubt.new.serials (c.doubt.result) = subst (λ m. Runs g.S.Site.told g.S.Site.faults g.N.Serials.drawn g.N.Serials.faults c.args.self (m) c.args.site.now c.doubt.new.site c.args.serials.now c.doubt.new.serials (c.doubt.result)) (sym c.in-Doubt.is) k in
    record { stepped = r.stepped; ended = r.ended; still = r.still; store = r.store; rid = r.rid; told = r.told; drawn = r.drawn; leaves = r.leaves; writes = r.writes; pools = r.pools; homes = r.homes; refused = r.refused; spent = r.spent; causes = r.causes }

pub returns-in-Put-command : goal.returns-in-Put-command
returns-in-Put-command g c =
    let k : Runs g.S.Site.told g.S.Site.faults g.N.Serials.drawn g.N.Serials.faults c.args.self (command.Put c.in-Put.name c.in-Put-command.body c.in-Put.xid) c.args.site.now c.put.new.site c.args.serials.now c.put.new.serials (c.put.result) = record { stepped = c.put.ensures.stepped; ended = c.put.ensures.ended; still = c.put.ensures.still; store = c.put.ensures.store; rid = c.put.ensures.rid; told = c.put.ensures.told; drawn = c.put.ensures.drawn; leaves = c.put.ensures.leaves; writes = c.put.ensures.writes; pools = c.put.ensures.pools; homes = c.put.ensures.homes; refused = c.put.ensures.refused; spent = c.put.ensures.spent; causes = c.put.ensures.causes } in
    let r : Runs g.S.Site.told g.S.Site.faults g.N.Serials.drawn g.N.Serials.faults c.args.self (c.args.command) c.args.site.now c.put.new.site c.args.serials.now c.put.new.serials (c.put.result) = subst (λ m. Runs g.S.Site.told g.S.Site.faults g.N.Serials.drawn g.N.Serials.faults c.args.self (m) c.args.site.now c.put.new.site c.args.serials.now c.put.new.serials (c.put.result)) (put_again c.args.command c.in-Put.name c.in-Put.body c.in-Put-command.name c.in-Put-command.body c.in-Put.xid c.in-Put-command.xid c.in-Put.is c.in-Put-command.is) k in
    record { stepped = r.stepped; ended = r.ended; still = r.still; store = r.store; rid = r.rid; told = r.told; drawn = r.drawn; leaves = r.leaves; writes = r.writes; pools = r.pools; homes = r.homes; refused = r.refused; spent = r.spent; causes = r.causes }
