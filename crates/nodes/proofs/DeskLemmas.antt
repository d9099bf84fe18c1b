-- Calls at a desk, from the calls under the locks.
use Rattle.nodes.proofs.Words.{◌≡◌, ℕ, Bool, true, false, List, Some, None, Result, Ok, Err, inl, inr, sym, ◌∙◌, subst, IfErr, IsErrAnd, Event, StepFault, Carried}
use Rattle.std.specs.Prelude.{◌⊎◌}
use Rattle.library.specs.declared.entry.Entry.{Entry}
use Rattle.net.specs.declared.event.Event.TheVariants.{Begin, Offer}
use Rattle.net.specs.declared.fault.StepFault.TheVariants.{Apart}
use Rattle.nodes.specs.Words.{IsPrefixOf}
use Rattle.nodes.specs.declared.moment.Moment.{Moment}
use Rattle.nodes.specs.declared.moment.Moment.TheVariants.{Ended}
use Rattle.nodes.specs.Moments.{IsStoppedAt}
use Rattle.nodes.specs.Runs.{IsRun}
use Rattle.nodes.specs.Adding.{IsAddFault}
use Rattle.nodes.specs.Desk.{Happens, IsPlayFault, IsRefusedIn}
use Rattle.nodes.proofs.PrefixLemmas.{prefix_self, prefix_trans}
use Rattle.nodes.proofs.MomentLemmas.{stopped_stays}

-- A fault that `?` returns.

pub handed : {A : Type 0} (P : StepFault → Type 0) (r : Result A StepFault) (fault : StepFault) → IsErrAnd r (λ f. f ≡ fault) → P fault → IfErr r P
handed P (Err f) fault same p = subst P (sym same) p
handed P (Ok x) fault same p = elim same [ ]

-- What happened in a part of a call happened in the call.

pub happens_before : (first old new : List Moment) (e : Event Carried) → IsPrefixOf first old → IsRun old → Happens old new e → Happens first new e
happens_before first old new e pre run h = record {
  at = h.at;
  later = prefix_trans first old h.at pre h.later;
  earlier = h.earlier;
  switch = h.switch;
  is_switch = h.is_switch;
  stands = λ seen seen_at.
      let g = run.goes_on first seen pre seen_at in
      let s = h.stands g.switch g.is_switch in
      record { before = s.before; later = prefix_trans seen.history g.switch.history s.before g.goes_on.events s.later; is = s.is };
  last = h.last;
}

pub happens_later : (old new last : List Moment) (e : Event Carried) → IsPrefixOf new last → Happens old new e → Happens old last e
happens_later old new last e pre h = record { at = h.at; later = h.later; earlier = prefix_trans h.at new last h.earlier pre; switch = h.switch; is_switch = h.is_switch; stands = h.stands; last = h.last }

pub refused_between : (first old new last : List Moment) (e : Event Carried) (fault : StepFault) → IsPrefixOf first old → IsPrefixOf new last → IsRefusedIn old new e fault → IsRefusedIn first last e fault
refused_between first old new last e fault pre post h = record { at = h.at; later = prefix_trans first old h.at pre h.later; earlier = prefix_trans h.at new last h.earlier post; switch = h.switch; is_switch = h.is_switch; left = h.left; plays = h.plays }

-- what holds of an error still holds
pub on_err : {A : Type 0} (P Q : StepFault → Type 0) (r : Result A StepFault) → ((f : StepFault) → P f → Q f) → IfErr r P → IfErr r Q
on_err P Q (Ok a) more p = tt
on_err P Q (Err e) more p = more e p

-- the fault of an event that is played after it was asked whether the cluster is stopped
pub play_fault : (first old new : List Moment) (e : Event Carried) (fault : StepFault) → IsPrefixOf first old → (fault ≡ Apart) ⊎ IsRefusedIn old new e fault → IsPlayFault first new e fault
play_fault first old new e fault pre (inl apart) = inr (inl apart)
play_fault first old new e fault pre (inr refused) = inr (inr (refused_between first old new new e fault pre (prefix_self new) refused))

-- a fault in a part of a call is one in the call
pub play_within : (first old new last : List Moment) (e : Event Carried) (fault : StepFault) → IsPrefixOf first old → IsPrefixOf new last → IsPlayFault old new e fault → IsPlayFault first last e fault
play_within first old new last e fault pre post (inl stopped) = inl (stopped.0, stopped_stays new last post stopped.1)
play_within first old new last e fault pre post (inr (inl apart)) = inr (inl apart)
play_within first old new last e fault pre post (inr (inr refused)) = inr (inr (refused_between first old new last e fault pre post refused))

pub add_offer : (old new : List Moment) (k : ℕ) (entry : Entry) (fault : StepFault) → IsPlayFault old new (Offer k (record { 0 = entry })) fault → IsAddFault old new k entry fault
add_offer old new k entry fault offer = inr (inr (inr (inl offer)))

pub add_begin : (old new : List Moment) (k : ℕ) (entry : Entry) (fault : StepFault) → IsPlayFault old new (Begin k) fault → IsAddFault old new k entry fault
add_begin old new k entry fault begin = inr (inr (inr (inr begin)))

pub add_within : (first old new last : List Moment) (k : ℕ) (entry : Entry) (fault : StepFault) → IsPrefixOf first old → IsPrefixOf new last → IsAddFault old new k entry fault → IsAddFault first last k entry fault
add_within first old new last k entry fault pre post (inl memory) = inl memory
add_within first old new last k entry fault pre post (inr (inl apart)) = inr (inl apart)
add_within first old new last k entry fault pre post (inr (inr (inl none))) = inr (inr (inl none))
add_within first old new last k entry fault pre post (inr (inr (inr (inl offer)))) = inr (inr (inr (inl (play_within first old new last (Offer k (record { 0 = entry })) fault pre post offer))))
add_within first old new last k entry fault pre post (inr (inr (inr (inr begin)))) = inr (inr (inr (inr (play_within first old new last (Begin k) fault pre post begin))))

-- a cluster that is not stopped at the end was not at the start
pub not_stopped : (old new : List Moment) (b : Bool) → IsPrefixOf old new → b ≡ false → IsStoppedAt new b → IsStoppedAt old true → ⊥
not_stopped old new b pre is at was =
    let now : Some Ended ≡ None = sym (stopped_stays old new pre was) ∙ subst (λ (t : Bool). IsStoppedAt new t) is at in cc
