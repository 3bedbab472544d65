use Rattle.std.proofs.Common.{refl, ap, sym, ◌∙◌}
use Rattle.hb_commit.specs.Driving.{using, talk_at, reply_to}
use Rattle.hb_talk.specs.Ends.{rolling_back}
use Rattle.hb_commit.proofs.driver.Driver.ask_abort.Goals as goal

pub returns-clause-next : goal.returns-clause-next
returns-clause-next c = (
  (ap (λ d. d.tx) c.self.view_is, ap (λ d. d.nodes) c.self.view_is),
  refl,
  λ rs locks bytes.
      ap (λ s. talk_at rs (using c.args.self.now locks bytes) c.args.self.now.votes s) c.requires
      ∙ ap (λ d. rolling_back (using d locks bytes) c.args.prepared.0 (reply_to rs c.args.why)) (sym c.self.view_is),
)
