-- A step of a statement's plan is one of the session's talk.
use Rattle.std.proofs.Common.{◌≡◌, true, ◌⊎◌, List, Some, Ok, refl, ap, sym, ◌∙◌, subst, inl, inr}
use Rattle.hb_types.specs.declared.answer.Answer.{Answer}
use Rattle.hb_types.specs.declared.answer.Edge.{Edge}
use Rattle.hb_types.specs.declared.names.NodeName.{NodeName}
use Rattle.hb_types.specs.declared.request.Request.{Request}
use Rattle.hb_types.specs.Lists.{Each}
use Rattle.hb_model.specs.NodeSets.{has_node, nodes_in}
use Rattle.hb_model.specs.declared.reply.Reply.{Reply}
use Rattle.hb_model.specs.declared.statement.Statement.{Statement}
use Rattle.hb_talk.specs.Talk.{Talk, says, asks}
use Rattle.hb_access.specs.Accesses.{at_branch, use_of, used_after}
use Rattle.hb_access.specs.declared.access.Next.TheVariants as next
use Rattle.hb_access.specs.declared.usage.Usage.{Usage}
use Rattle.hb_plan.specs.Planned.{IsTold, Planned, Said, now_talks, now_hears}
use Rattle.hb_wait.specs.Courses.{free, next_in, by_heard, after_call, pending_in}
use Rattle.hb_wait.specs.Waiting.{heard}
use Rattle.hb_wait.specs.declared.pending.Heard.{Heard}
use Rattle.hb_wait.specs.declared.pending.Heard.TheVariants as heard_as
use Rattle.hb_wait.specs.declared.pending.Lock.{Lock}
use Rattle.hb_wait.specs.declared.pending.Pending.{Pending}
use Rattle.hb_wait.specs.declared.pending.Pending.TheVariants as pending
use Rattle.hb_session.specs.declared.session.Progress.{Progress}
use Rattle.hb_session.specs.declared.session.Progress.TheVariants as progress
use Rattle.hb_session.specs.declared.stage.Asking.{Asking}
use Rattle.hb_session.specs.declared.stage.Stage.TheVariants as stage
use Rattle.hb_session.specs.Sitting.{Sitting, planned, stands_at}
use Rattle.hb_session.specs.Steps.{CarriesOn, CarriesOnIf, IsSameUse, IsToldBy, Leads, Makes, MovesAt, RunsOut, edges_heard}
use Rattle.hb_session.proofs.Moving.{asks_at, moves_same}

next_pending : {R : Type 0} (p : Pending) (k : Answer → Talk R) → next_in (pending_in p k) ≡ Some p
next_pending (pending.Asks node q) k = refl
next_pending (pending.Blocked l path wanted holders) k = refl
next_pending (pending.Waits l) k = refl

after_pending : {R : Type 0} (p : Pending) (k : Answer → Talk R) (a : Answer) → after_call (pending_in p k) a ≡ by_heard k (heard p a)
after_pending (pending.Asks node q) k a = refl
after_pending (pending.Blocked l path wanted holders) k a = refl
after_pending (pending.Waits l) k a = refl

-- ---- the request of a plan is asked

abbrev pub rest_of : Sitting → Planned → List Statement → Answer → Talk (List Reply)
rest_of s plan sts x = planned s sts (now_hears plan x)

leads_by : (s : Sitting) (asking : Asking) (a : Answer) (h : Heard) → heard asking.pending a ≡ h → (sts : List Statement)
    → after_call (stands_at s sts (stage.Asks asking)) a ≡ by_heard (rest_of s asking.plan sts) h
leads_by s asking a h is sts = after_pending asking.pending (rest_of s asking.plan sts) a ∙ ap (by_heard (rest_of s asking.plan sts)) is

pub answered_call : (s new : Sitting) (asking : Asking) (a answer : Answer) (shows : Progress) → heard asking.pending a ≡ heard_as.Answered answer
    → CarriesOnIf (IsTold asking.plan answer) (λ sts. free (planned s sts (now_hears asking.plan answer))) asking.plan.usage s new shows
    → Makes (record s { stage = stage.Asks asking }) new asking.pending a shows
answered_call s new asking a answer shows is carries = record {
  next = λ sts. next_pending asking.pending (rest_of s asking.plan sts);
  goes = λ told. elim (carries.goes (subst (λ h. IsToldBy (stage.Asks asking) h) is told)) [
    | inl leads ↦ inl (λ sts. leads_by s asking a (heard_as.Answered answer) is sts ∙ leads sts)
    | inr out ↦ inr out
  ];
  moves = subst (λ h. MovesAt (stage.Asks asking) h new) (sym is) carries.moves;
  edges = carries.edges ∙ ap edges_heard (sym is);
  begun = carries.begun;
}

pub waits_call : (s : Sitting) (asking : Asking) (a : Answer) (l : Lock) (edges : List Edge) → heard asking.pending a ≡ heard_as.Waits l edges
    → Makes (record s { stage = stage.Asks asking }) (record s { stage = stage.Asks (record { plan = asking.plan; pending = pending.Waits l }) })
    asking.pending a (progress.Waits edges)
waits_call s asking a l edges is = record {
  next = λ sts. next_pending asking.pending (rest_of s asking.plan sts);
  goes = λ told. inl (λ sts. leads_by s asking a (heard_as.Waits l edges) is sts);
  moves = subst (λ h. MovesAt (stage.Asks asking) h (record s { stage = stage.Asks (record { plan = asking.plan; pending = pending.Waits l }) })) (sym is) refl;
  edges = ap edges_heard (sym is);
  begun = refl;
}

pub more_call : (s : Sitting) (asking : Asking) (a : Answer) (p : Pending) → heard asking.pending a ≡ heard_as.More p
    → Makes (record s { stage = stage.Asks asking }) (record s { stage = stage.Asks (record { plan = asking.plan; pending = p }) })
    asking.pending a progress.More
more_call s asking a p is = record {
  next = λ sts. next_pending asking.pending (rest_of s asking.plan sts);
  goes = λ told. inl (λ sts. leads_by s asking a (heard_as.More p) is sts);
  moves = subst (λ h. MovesAt (stage.Asks asking) h (record s { stage = stage.Asks (record { plan = asking.plan; pending = p }) })) (sym is) refl;
  edges = ap edges_heard (sym is);
  begun = refl;
}

-- ---- what an answer makes of a plan

-- where a course leads is where the same course leads, counted otherwise
leads_same : (s new : Sitting) (t t' : Talk Said) (u v : Usage) (shows : Progress) → t ≡ t' → IsSameUse u v
    → Leads (λ sts. free (planned s sts t')) new shows ⊎ RunsOut v.tx.0 v.used.0 new shows → Leads (λ sts. free (planned s sts t)) new shows ⊎ RunsOut u.tx.0 u.used.0 new shows
leads_same s new t t' u v shows told alike (inl leads) = inl (λ sts. ap (λ x. free (planned s sts x)) told ∙ leads sts)
leads_same s new t t' u v shows told alike (inr out) =
    inr (out.0, out.1 ∙ alike.0, subst (λ k. Each (λ n. has_node k n ≡ true) (nodes_in out.0.used)) alike.1 out.2, out.3, out.4)

-- where something was told, what goes on behind it
pub carried_if : (T : Type 0) (s new : Sitting) (t t' : Talk Said) (u v : Usage) (shows : Progress) → (T → t ≡ t') → IsSameUse u v
    → CarriesOn (λ sts. free (planned s sts t')) v s new shows → CarriesOnIf T (λ sts. free (planned s sts t)) u s new shows
carried_if T s new t t' u v shows same alike carries = record {
  same = carries.same;
  begun = carries.begun;
  leaves = carries.leaves;
  edges = carries.edges;
  goes = λ told. leads_same s new t t' u v shows (same told) alike carries.goes;
  moves = moves_same u v new alike carries.moves;
}

pub replied_if : (T : Type 0) (s : Sitting) (t : Talk Said) (u v : Usage) (r : Reply) → (T → t ≡ says (Ok r, use_of v)) → IsSameUse u v
    → CarriesOnIf T (λ sts. free (planned s sts t)) u s (record s { stage = stage.Open v }) (progress.Shown r)
replied_if T s t u v r told alike = record {
  same = record { index = refl; back_ends = refl };
  begun = refl;
  leaves = (refl, refl);
  edges = refl;
  goes = λ x. inl (λ sts. ap (λ y. free (planned s sts y)) (told x));
  moves = inl alike;
}

pub asks_next : (s : Sitting) (plan held : Planned) (node : NodeName) (q : Request) → now_talks plan ≡ asks node.0 q (now_hears held)
    → at_branch plan.usage (next.Ask node q) ≡ true → held.usage.tx.0 ≡ plan.usage.tx.0 → held.usage.used.0 ≡ used_after plan.usage.used.0 (next.Ask node q)
    → CarriesOn (λ sts. free (planned s sts (now_talks plan))) plan.usage s
    (record s { stage = stage.Asks (record { plan = held; pending = pending.Asks node q }) }) progress.More
asks_next s plan held node q told branch tx used = record {
  same = record { index = refl; back_ends = refl };
  begun = refl;
  leaves = refl;
  edges = refl;
  goes = inl (λ sts. ap (λ x. free (planned s sts x)) told);
  moves = inl (asks_at plan.usage held node q branch tx used);
}
