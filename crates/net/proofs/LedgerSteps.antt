-- The ledger remains sound with each addition that a node may make: a ballot begun, a promise, a
-- vote, proposals for consecutive slots.
use Rattle.net.proofs.Words.{◌≡◌, ℕ, suc, ◌+◌, ◌<◌, ◌≤◌, List, [], ◌∷◌, length, Option, inl, inr, refl, sym, subst, arith, AllByRecursion, In, Ballot, Vote}
use Rattle.net.proofs.GrowingLists.{settles_more}
use Rattle.net.proofs.Ledger.{Begun, Promised, Proposal, proposal, Ledger, IsGrounded, IsFree, free_grounded, IsTruthful, IsBegun, IsBrought, OneBallot, OnePromise, OnePlace, IsSound}
use Rattle.net.proofs.LedgerGrows.{AllPromisedUpto, Grows, grows_none, grows_both, with_begun, with_promise, with_proposal, with_vote, grows-with_begun, grows-with_promise, grows-with_proposal, grows-with_vote, grounded_lasts, all_grounded_last, truthful_lasts, begun_lasts}

module _ {V : Type 0} {ws : List ℕ} {offers : List V} {l : Ledger V} (sound : IsSound ws offers l) where
  -- in a ledger that grew each older promise is truthful
  old_truthful : {k : ℕ} {m : Ledger V} → Grows k l m → (p : Promised V) → In p l.promises → IsTruthful m p
  old_truthful g p i = truthful_lasts g p i (sound.truthful p i)

  -- in a ledger that grew the ballot of each older proposal is begun
  old_begun : {k : ℕ} {m : Ledger V} → Grows k l m → (p : Proposal V) → In p l.proposals → IsBegun m p.ballot
  old_begun g p i = begun_lasts g p.ballot (sound.proposed_begun p i)

  -- the ledger remains sound if a ballot is begun that was not begun before
  pub begun_sound : (x : Begun) → ((y : Begun) → In y l.begun → x.ballot ≡ y.ballot → ⊥) → IsSound ws offers (with_begun x l)
  begun_sound x fresh = let g = grows-with_begun x l x.ballot.node refl in record {
    one_value = sound.one_value;
    backed = sound.backed;
    brought = sound.brought;
    promised_once = sound.promised_once;
    grounded = all_grounded_last g ws l.proposals sound.grounded;
    proposed_begun = old_begun g;
    begun_once = settles_more OneBallot (λ y. y.first) x l.begun (λ y z e. sym e) fresh sound.begun_once;
    truthful = old_truthful g;
  }

  -- the ledger remains sound with a truthful promise of a ballot that the node did not promise
  -- before
  pub promised_sound : (p : Promised V) → ((q : Promised V) → In q l.promises → OnePromise p q → ⊥) → IsTruthful l p → IsSound ws offers (with_promise p l)
  promised_sound p fresh truth = let g = grows-with_promise p l p.node refl in record {
    one_value = sound.one_value;
    backed = sound.backed;
    brought = sound.brought;
    begun_once = sound.begun_once;
    grounded = all_grounded_last g ws l.proposals sound.grounded;
    proposed_begun = old_begun g;
    promised_once = settles_more OnePromise (λ q. q.reports) p l.promises (λ q r e. (sym e.0, sym e.1)) fresh sound.promised_once;
    truthful = λ q i. elim i [
      | inl e ↦ subst (λ (q : Promised V). IsTruthful (with_promise p l) q) e (same_truth p truth)
      | inr j ↦ old_truthful g q j
    ];
  } where
    same_truth : (p : Promised V) → IsTruthful l p → IsTruthful (with_promise p l) p
    same_truth p h = record {
      begun = h.begun;
      reported = h.reported;
      backed = λ r i. let b = h.backed r i in record { first = b.first; under = b.under; voted = b.voted };
    }

  -- the ledger remains sound with a vote for a proposal under a ballot that is at least each that
  -- the node promised
  pub voted_sound : (x : Vote V) → AllPromisedUpto l.promises x.node x.ballot → In (proposal x.ballot x.slot x.value) l.proposals → IsSound ws offers (with_vote x l)
  voted_sound x upto proposed = let g = grows-with_vote x l upto in record {
    one_value = sound.one_value;
    brought = sound.brought;
    begun_once = sound.begun_once;
    promised_once = sound.promised_once;
    backed = λ y i. elim i [
      | inl e ↦ subst (λ (y : Vote V). In (proposal y.ballot y.slot y.value) l.proposals) e proposed
      | inr j ↦ sound.backed y j
    ];
    grounded = all_grounded_last g ws l.proposals sound.grounded;
    proposed_begun = old_begun g;
    truthful = old_truthful g;
  }

  -- the ledger remains sound with a grounded proposal that is the first of its ballot and slot
  pub proposed_sound : (p : Proposal V) → ((q : Proposal V) → In q l.proposals → OnePlace p q → ⊥) → IsBegun l p.ballot → IsBrought offers p.value
      → IsGrounded ws l l.proposals p.ballot p.slot p.value → IsSound ws offers (with_proposal p l)
  proposed_sound p fresh begun brought grounded = let g = grows-with_proposal p l p.ballot.node refl in record {
    begun_once = sound.begun_once;
    promised_once = sound.promised_once;
    one_value = settles_more OnePlace (λ q. q.value) p l.proposals (λ q r e. (sym e.0, sym e.1)) fresh sound.one_value;
    backed = λ x i. inr (sound.backed x i);
    grounded = (grounded_lasts g l.proposals l.proposals (λ q i. i) grounded, all_grounded_last g ws l.proposals sound.grounded);
    brought = λ q i. elim i [
      | inl e ↦ subst (λ (q : Proposal V). IsBrought offers q.value) e brought
      | inr j ↦ sound.brought q j
    ];
    proposed_begun = λ q i. elim i [
      | inl e ↦ subst (λ (q : Proposal V). IsBegun (with_proposal p l) q.ballot) e (begun_lasts g p.ballot begun)
      | inr j ↦ old_begun g q j
    ];
    truthful = old_truthful g;
  }

-- Proposals for the slots from s on, under one ballot.

abbrev pub with_proposals : {V : Type 0} → Ballot → ℕ → List (Option V) → Ledger V → Ledger V
with_proposals b s [] l = l
with_proposals b s (v ∷ vs) l = with_proposals b (suc s) vs (with_proposal (proposal b s v) l)

-- each proposal under the ballot is for a slot below s
abbrev pub AllProposedBelow : {V : Type 0} → Ledger V → Ballot → ℕ → Type 0
AllProposedBelow {V} l b s = (p : Proposal V) → In p l.proposals → p.ballot ≡ b → p.slot < s

-- each of the values is grounded at its slot, from s on
abbrev pub EachGrounded : {V : Type 0} → List ℕ → Ledger V → Ballot → ℕ → List (Option V) → Type 0
EachGrounded ws l b s [] = Unit {0}
EachGrounded ws l b s (v ∷ vs) = IsGrounded ws l l.proposals b s v × EachGrounded ws l b (suc s) vs

-- each of the values was proposed at its slot, from s on
abbrev pub EachProposed : {V : Type 0} → List (Proposal V) → Ballot → ℕ → List (Option V) → Type 0
EachProposed ps b s [] = Unit {0}
EachProposed ps b s (v ∷ vs) = In (proposal b s v) ps × EachProposed ps b (suc s) vs

-- if any value may be proposed at each slot from s on, a list of values is grounded there
pub each_free : {V : Type 0} (ws : List ℕ) (l : Ledger V) (b : Ballot) (s : ℕ) (vs : List (Option V)) → ((t : ℕ) → s ≤ t → IsFree ws l b t) → EachGrounded ws l b s vs
each_free ws l b s [] free = tt
each_free ws l b s (v ∷ vs) free = (free_grounded l.proposals v (free s (omega arith)), each_free ws l b (suc s) vs (λ t le. free t (omega arith)))

-- values that were proposed are so in a longer list of proposals
pub each_proposed_more : {V : Type 0} (b : Ballot) (ps qs : List (Proposal V)) (s : ℕ) (vs : List (Option V)) → ((p : Proposal V) → In p ps → In p qs) → EachProposed ps b s vs → EachProposed qs b s vs
each_proposed_more b ps qs s [] more h = tt
each_proposed_more b ps qs s (v ∷ vs) more h = (more _ h.0, each_proposed_more b ps qs (suc s) vs more h.1)

-- values that are grounded at their slots remain so in a ledger that grew
each_lasts : {V : Type 0} {k : ℕ} {l m : Ledger V} (ws : List ℕ) (b : Ballot) → Grows k l m → (s : ℕ) (vs : List (Option V)) → EachGrounded ws l b s vs → EachGrounded ws m b s vs
each_lasts ws b g s [] h = tt
each_lasts {l = l} {m = m} ws b g s (v ∷ vs) h = (grounded_lasts g l.proposals m.proposals g.proposals.old h.0, each_lasts ws b g (suc s) vs h.1)

-- ledger m is l with proposals for these values
pub record IsBatch {V : Type 0} (ws : List ℕ) (offers : List V) (l : Ledger V) (b : Ballot) (s : ℕ) (vs : List (Option V)) (m : Ledger V) : Type 0 where
  pub grows : Grows b.node l m
  pub sound : IsSound ws offers m
  pub below : AllProposedBelow m b (s + length vs)
  pub proposed : EachProposed m.proposals b s vs
  pub begun : m.begun ≡ l.begun
  pub promises : m.promises ≡ l.promises
  pub votes : m.votes ≡ l.votes

-- if all proposals under a ballot are below slot s, with one at s they are below s + 1
below_more : {V : Type 0} (l : Ledger V) (b : Ballot) (s : ℕ) (v : Option V) → AllProposedBelow l b s → AllProposedBelow (with_proposal (proposal b s v) l) b (suc s)
below_more {V} l b s v below p (inl e) d = subst (λ (q : Proposal V). q.slot < suc s) e (omega arith)
below_more l b s v below p (inr i) d = let u = below p i d in omega arith

-- proposals of grounded values for consecutive slots from s on leave the ledger sound
pub batch : {V : Type 0} (ws : List ℕ) (offers : List V) (b : Ballot) (vs : List (Option V)) (s : ℕ) (l : Ledger V) → IsSound ws offers l → IsBegun l b → AllProposedBelow l b s
    → EachGrounded ws l b s vs → AllByRecursion (IsBrought offers) vs → IsBatch ws offers l b s vs (with_proposals b s vs l)
batch ws offers b [] s l sound begun below each brought = record {
  grows = grows_none b.node l;
  sound = sound;
  below = λ p i d. let u = below p i d in omega arith;
  proposed = tt;
  begun = refl;
  promises = refl;
  votes = refl;
}
batch {V} ws offers b (v ∷ vs) s l sound begun below each brought =
    let p : Proposal V = proposal b s v in
    let m : Ledger V = with_proposal p l in
    let g : Grows b.node l m = grows-with_proposal p l b.node refl in
    let fresh : (q : Proposal V) → In q l.proposals → OnePlace p q → ⊥ = λ q i e. let u = below q i (sym e.0) in omega (arith, e.1, u) in
    let rest = batch ws offers b vs (suc s) m (proposed_sound sound p fresh begun brought.0 each.0) (begun_lasts g b begun) (below_more l b s v below) (each_lasts ws b g (suc s) vs each.1) brought.1 in
    record {
      grows = grows_both g rest.grows;
      sound = rest.sound;
      below = λ q i d. let u = rest.below q i d in omega arith;
      proposed = (rest.grows.proposals.old p (inl refl), rest.proposed);
      begun = rest.begun;
      promises = rest.promises;
      votes = rest.votes;
    }
