use Rattle.std.proofs.Common.{sym, ◌∙◌}
use Rattle.writing.proofs.Meets.{meets-parts, meets-rights}
use Rattle.writing.proofs.write_record.Goals as goal

pub lay_record-requires : goal.lay_record-requires
lay_record-requires c =
    let e = sym c.record_meets.ensures ∙ c.if-not-record_meets.false in
    let p = meets-parts _ _ e in
    (p.mode, p.conditions, meets-rights _ _ e)
