use Rattle.std.proofs.Common.{ℕ, List, length, IfSome, ◌∙◌, sym, ap, subst}
use Rattle.qls_site.specs.Disk.{write_at}
use Rattle.qls_site.specs.Content.{Acts, HasRange, HasFile, on_disk}
use Rattle.qls_site.proofs.Told.{IfSome-after, HasFile-write}
use Rattle.qls_pool.proofs.Steps.{header_length}
use Rattle.qls_pool.proofs.Calls.{handed_on, write_err, sync_err, heads_done}
use Rattle.qls_pool.proofs.file.write_header.Goals as goal

pub returns-in_err-write-clause-told : goal.returns-in_err-write-clause-told
returns-in_err-write-clause-told g c =
    write_err (Unit {0}) c.args.id c.args.header.now c.encode_into.new.into c.in_err-write.field-0.0 c.from_residual.result c.encode_into.ensures.exact
    (handed_on c.from_residual.result c.in_err-write.field-0.0 c.from_residual.ensures) _ _ c.in_err-write.ensures.told

pub sync-requires : goal.sync-requires
sync-requires g c =
    let bytes : List ℕ = c.encode_into.new.into in
    IfSome-after (Acts (on_disk (write_at c.args.id 0 bytes))) (HasRange c.args.id 0 (length bytes)) (HasFile c.args.id) _ _ c.in_ok-write.ensures.told
    (subst (λ n. IfSome (g.S.Site.told c.args.site.now) (HasRange c.args.id 0 n)) (sym (ap length c.encode_into.ensures.exact ∙ header_length c.args.header.now c.requires.legal)) c.requires.range)
    (HasFile-write c.args.id 0 bytes)

pub returns-in_err-sync-clause-told : goal.returns-in_err-sync-clause-told
returns-in_err-sync-clause-told g c =
    sync_err (Unit {0}) c.args.id c.args.header.now c.encode_into.new.into c.in_err-sync.field-0.0 c.from_residual-in_err-sync.result c.encode_into.ensures.exact
    (handed_on c.from_residual-in_err-sync.result c.in_err-sync.field-0.0 c.from_residual-in_err-sync.ensures) _ _ _ c.in_ok-write.ensures.told c.in_err-sync.ensures.told

pub returns-clause-told : goal.returns-clause-told
returns-clause-told g c = heads_done c.args.id c.args.header.now c.encode_into.new.into c.encode_into.ensures.exact _ _ _ c.in_ok-write.ensures.told c.in_ok-sync.ensures.told
