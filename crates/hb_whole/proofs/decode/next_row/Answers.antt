use Rattle.std.proofs.Common.{◌∙◌, sym, subst, Option, ℕ}
use Rattle.std.specs.Prelude.{MatchOption}
use Rattle.hb_types.specs.declared.change.Stored.{Stored}
use Rattle.hb_whole.specs.Read.{HasNoRow, IsFront}
use Rattle.hb_whole.proofs.Decoding.{never_above, never_read}
use Rattle.hb_whole.proofs.decode.next_row.Goals as goal

pub returns-else-is_above : goal.returns-else-is_above
returns-else-is_above c =
    let found = subst (λ (o : Option (Stored × ℕ)). MatchOption o (HasNoRow c.args.bytes.now) (λ f. IsFront c.args.bytes.now f.0 f.1)) c.in-Some.is c.in_ok-row.ensures in
    never_above c.changes_have_one_form.ensures.one_form c.args.rows.now c.args.bytes.now c.in-Some.row c.in-Some.used found (sym c.is_above.ensures ∙ c.if-is_above.false)

pub returns-in-None : goal.returns-in-None
returns-in-None c =
    let found = subst (λ (o : Option (Stored × ℕ)). MatchOption o (HasNoRow c.args.bytes.now) (λ f. IsFront c.args.bytes.now f.0 f.1)) c.in-None.is c.in_ok-row.ensures in
    never_read c.args.rows.now c.args.bytes.now found
