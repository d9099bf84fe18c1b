-- The ledger grows by what one node does, and the facts about it still hold.
-- A node that promised a ballot casts no new vote below it, so after the promises of a quorum its
-- votes below are final.
use Rattle.net.proofs.Words.{◌≡◌, ℕ, Bool, true, List, [], ◌∷◌, Option, inl, inr, refl, sym, ◌∙◌, subst, In, Contains-in, In-contains, Ballot, Under, Upto, not_both, Vote, IsChosen}
use Rattle.net.proofs.GrowingLists.{Adds, adds_none, adds_one, adds_both}
use Rattle.net.proofs.Ledger.{Begun, Promised, Proposal, Ledger, HasPromised, NoneVoted, IsGrounded, IsFree, AllGrounded, IsTruthful, IsBegun}

-- all ballots that node k promised are at most b
abbrev pub AllPromisedUpto : {V : Type 0} → List (Promised V) → ℕ → Ballot → Type 0
AllPromisedUpto {V} promises k b = (p : Promised V) → In p promises → p.node ≡ k → Upto p.ballot b

-- ledger m is l with additions by node k
pub record Grows {V : Type 0} (k : ℕ) (l m : Ledger V) : Type 0 where
  pub begun : Adds (λ x. x.ballot.node ≡ k) l.begun m.begun
  pub promises : Adds (λ x. x.node ≡ k) l.promises m.promises
  pub proposals : Adds (λ x. x.ballot.node ≡ k) l.proposals m.proposals
  pub votes : Adds (λ x. (x.node ≡ k) × AllPromisedUpto l.promises k x.ballot) l.votes m.votes

-- a ledger grows to itself, with no additions
pub grows_none : {V : Type 0} (k : ℕ) (l : Ledger V) → Grows k l l
grows_none k l = record { begun = adds_none; promises = adds_none; proposals = adds_none; votes = adds_none }

-- additions by one node in two steps are additions by that node
pub grows_both : {V : Type 0} {k : ℕ} {l m n : Ledger V} → Grows k l m → Grows k m n → Grows k l n
grows_both g h = record {
  begun = adds_both (λ x e. e) (λ x e. e) g.begun h.begun;
  promises = adds_both (λ x e. e) (λ x e. e) g.promises h.promises;
  proposals = adds_both (λ x e. e) (λ x e. e) g.proposals h.proposals;
  votes = adds_both (λ x e. e) (λ x e. (e.0, λ p i d. e.1 p (g.promises.old p i) d)) g.votes h.votes;
}

-- The additions of one node.

abbrev pub with_begun : {V : Type 0} → Begun → Ledger V → Ledger V
with_begun x l = record l { begun = x ∷ l.begun }

abbrev pub with_promise : {V : Type 0} → Promised V → Ledger V → Ledger V
with_promise x l = record l { promises = x ∷ l.promises }

abbrev pub with_proposal : {V : Type 0} → Proposal V → Ledger V → Ledger V
with_proposal x l = record l { proposals = x ∷ l.proposals }

abbrev pub with_vote : {V : Type 0} → Vote V → Ledger V → Ledger V
with_vote x l = record l { votes = x ∷ l.votes }

pub grows-with_begun : {V : Type 0} (x : Begun) (l : Ledger V) (k : ℕ) → x.ballot.node ≡ k → Grows k l (with_begun x l)
grows-with_begun x l k mine = record { begun = adds_one mine; promises = adds_none; proposals = adds_none; votes = adds_none }

pub grows-with_promise : {V : Type 0} (x : Promised V) (l : Ledger V) (k : ℕ) → x.node ≡ k → Grows k l (with_promise x l)
grows-with_promise x l k mine = record { begun = adds_none; promises = adds_one mine; proposals = adds_none; votes = adds_none }

pub grows-with_proposal : {V : Type 0} (x : Proposal V) (l : Ledger V) (k : ℕ) → x.ballot.node ≡ k → Grows k l (with_proposal x l)
grows-with_proposal x l k mine = record { begun = adds_none; promises = adds_none; proposals = adds_one mine; votes = adds_none }

pub grows-with_vote : {V : Type 0} (x : Vote V) (l : Ledger V) → AllPromisedUpto l.promises x.node x.ballot → Grows x.node l (with_vote x l)
grows-with_vote x l upto = record { begun = adds_none; promises = adds_none; proposals = adds_none; votes = adds_one (refl, upto) }

-- Facts that still hold in a ledger that grew.

-- a chosen value remains chosen with more votes
pub chosen_with_more : {V : Type 0} {ws : List ℕ} {s : ℕ} {v : Option V} (old new : List (Vote V)) → ((x : Vote V) → In x old → In x new) → IsChosen ws old s v → IsChosen ws new s v
chosen_with_more old new more h = record {
  ballot = h.ballot;
  chosen = record {
    voters = h.chosen.voters;
    majority = h.chosen.majority;
    voted = λ j q. In-contains _ new (more _ (Contains-in _ old (h.chosen.voted j q)));
  };
}

module _ {V : Type 0} {k : ℕ} {l m : Ledger V} (g : Grows k l m) where
  -- if a node promised a ballot, it has promised it in the larger ledger
  pub promised_lasts : {j : ℕ} {b : Ballot} → HasPromised l j b → HasPromised m j b
  promised_lasts h = record { promise = h.promise; is_in = g.promises.old _ h.is_in; node = h.node; ballot = h.ballot }

  -- a vote below a ballot that its node promised is an old one
  pub vote_is_old : (x : Vote V) (b : Ballot) → HasPromised l x.node b → In x m.votes → Under x.ballot b → In x l.votes
  vote_is_old x b h i under = elim (g.votes.new x i) [
    | inl old ↦ old
    | inr new ↦ absurd (not_both x.ballot b under (subst (λ (c : Ballot). Upto c x.ballot) h.ballot (new.1 h.promise h.is_in (h.node ∙ new.0))))
  ]

  -- if the nodes of a quorum promised a ballot and cast no vote below it at a slot, they cast none
  -- there later
  pub none_lasts : {b : Ballot} {s : ℕ} (quorum : ℕ → Bool) → ((j : ℕ) → quorum j ≡ true → HasPromised l j b) → NoneVoted l quorum b s → NoneVoted m quorum b s
  none_lasts {b} quorum promised none x i q e under = none x (vote_is_old x b (promised x.node q) i under) q e under

  -- if any value may be proposed at a slot under a ballot, any value may be proposed there later
  pub free_lasts : {ws : List ℕ} {b : Ballot} {s : ℕ} → IsFree ws l b s → IsFree ws m b s
  free_lasts h = record {
    quorum = h.quorum;
    majority = h.majority;
    promised = λ j q. promised_lasts (h.promised j q);
    none = none_lasts h.quorum h.promised h.none;
  }

  -- a grounded proposal remains grounded, also with more older proposals
  pub grounded_lasts : {ws : List ℕ} {b : Ballot} {s : ℕ} {v : Option V} (older newer : List (Proposal V)) → ((p : Proposal V) → In p older → In p newer)
      → IsGrounded ws l older b s v → IsGrounded ws m newer b s v
  grounded_lasts {b = b} older newer more h = record {
    quorum = h.quorum;
    majority = h.majority;
    promised = λ j q. promised_lasts (h.promised j q);
    picks = elim h.picks [
      | inl none ↦ inl (none_lasts h.quorum h.promised none)
      | inr most ↦ inr record {
        ballot = most.ballot;
        under = most.under;
        proposed = more _ most.proposed;
        highest = λ x i q e under. most.highest x (vote_is_old x b (h.promised x.node q) i under) q e under;
      }
    ];
  }

  -- each proposal of a list remains grounded in those older than itself
  pub all_grounded_last : (ws : List ℕ) (ps : List (Proposal V)) → AllGrounded ws l ps → AllGrounded ws m ps
  all_grounded_last ws [] h = tt
  all_grounded_last ws (p ∷ ps) h = (grounded_lasts ps ps (λ q i. i) h.0, all_grounded_last ws ps h.1)

  -- a promise remains truthful, since its node casts no new vote below its ballot
  pub truthful_lasts : (p : Promised V) → In p l.promises → IsTruthful l p → IsTruthful m p
  truthful_lasts p i h = record {
    begun = g.begun.old _ h.begun;
    reported = λ x j e from under. h.reported x (vote_is_old x p.ballot record { promise = p; is_in = i; node = sym e; ballot = refl } j under) e from under;
    backed = λ r j. let b = h.backed r j in record { first = b.first; under = b.under; voted = g.votes.old _ b.voted };
  }

  -- a ballot that was begun remains begun
  pub begun_lasts : (b : Ballot) → IsBegun l b → IsBegun m b
  begun_lasts b h = record { first = h.first; is_in = g.begun.old _ h.is_in }

  -- a value that is chosen by the votes of the ledger remains chosen
  pub chosen_lasts : {ws : List ℕ} {s : ℕ} {v : Option V} → IsChosen ws l.votes s v → IsChosen ws m.votes s v
  chosen_lasts h = chosen_with_more l.votes m.votes (λ x i. g.votes.old x i) h
