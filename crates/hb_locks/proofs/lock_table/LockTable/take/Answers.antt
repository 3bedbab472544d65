use Rattle.std.proofs.Common.{◌≡◌, ap, sym, ◌∙◌, [], if◌then◌else◌}
use Rattle.hb_types.specs.Places.{same_path}
use Rattle.hb_locks.specs.Locks.{blockers, granted, holders_at, mode_of, wanted_of}
use Rattle.hb_locks.specs.Takes.{wanted_at}
use Rattle.hb_locks.proofs.lock_table.LockTable.take.Goals as goal

pub returns-clause-says : goal.returns-clause-says
returns-clause-says c =
    let locks = c.args.self.now in
    let path = c.args.path in
    let tx = c.args.tx in
    let asked = c.wanted_of-wanted.result in
    let holders : c.holders_of-holders.result.now ≡ holders_at locks path = c.holders_of-holders.ensures ∙ ap (λ l. holders_at l path) c.self.view_is in
    let wanted : asked ≡ wanted_at locks tx path c.args.mode = c.wanted_of-wanted.ensures ∙ ap (λ hs. wanted_of (mode_of tx hs) c.args.mode) holders in
    let nobody : blockers tx asked c.holders_of-holders.result.now ≡ [] = sym c.in_ok-found.ensures ∙ c.is_empty.ensures.0 c.if-not-is_empty.false in (
      sym (ap (λ hs. blockers tx asked hs) holders ∙ ap (λ w. blockers tx w (holders_at locks path)) wanted) ∙ nobody,
      λ q. c.in_ok-grant.ensures.ok q
          ∙ ap (λ l. if same_path path q then granted tx asked (holders_at l path) else holders_at l q) c.self.view_is
          ∙ ap (λ w. if same_path path q then granted tx w (holders_at locks path) else holders_at locks q) wanted,
    )
