-- What the run over the items of a proof has counted.
-- Source: this project's profile (docs/COSTS.md).
-- The definition is a recursion on the items over expressions; the code counts while it runs over
-- ranges of one buffer.
use Rattle.std.specs.Prelude.{◌≡◌, ℕ, ◌+◌, ◌-◌, ◌≤◌, Bool, true, false, IsTrue, List, [], filter, length, take, Option, Some, None}
use Rattle.verify.specs.Words.{Database, Name, Stmt, before, CodeImages, images_of_names, Carries, Item, Cite, stmt_at}
use Rattle.frame.specs.MandatoryPairs.{AreReordered, has_two_or_more_items}
use Rattle.frame.specs.NumberedWork.{lists_work, read_all}
use Rattle.frame.specs.Parts.{Numbered}
use Rattle.subst.specs.ReadImages.{HasCounted, HasRead, ReadImages}
use Rattle.frame.specs.Sizes.{assertion_size}
use Rattle.frame.specs.DisjointWork.{disjointness}
use Rattle.verify.specs.declared.answer.Answer.{Answer}
use Rattle.verify.specs.declared.answer.Answer.TheVariants.{Proved, TooCostly, Wrong}
use Rattle.verify.specs.declared.citation.ProofContext.{ProofContext}
use Rattle.verify.specs.declared.label_table.LabelEntry.{LabelEntry}
use Rattle.verify.specs.Machine.{Results, State, start}
use Rattle.verify.specs.Metered.{Metered, is_past, with_work}
use Rattle.verify.specs.ResultPlaces.{HeldResults}
use Rattle.verify.specs.Right.{weight_limit}
use Rattle.verify.specs.RunsItemByNumber.{IsEntryIn, named}
use Rattle.verify.specs.Work.{Outcome, items_work, proof_work, step}

-- the results, if the item was done
abbrev pub done_if : Bool → State → Option State
done_if true st = Some st
done_if false st = None

-- an item that counts this much, and its own result, which is what the weight grows by
abbrev pub outcome_of : ℕ → Bool → List Name → Results ℕ → Results ℕ → Outcome
outcome_of cost ok names old new = record { work = cost + (new.weight - old.weight); after = done_if ok (named names new) }

-- ---- lists of pairs

-- a list was counted, or is one number alone, which is no pair
abbrev pub CountsIf : Bool → Numbered → CodeImages → List ℕ → ReadImages → ReadImages → Type 0
CountsIf true v σ list old new = HasCounted v σ list old new
CountsIf false v σ list old new = new ≡ old

-- these lists were read, one after another, and their work counted
pub record AreCounted (v : Numbered) (σ : CodeImages) (lists : List (List ℕ)) (a : ReadImages) : Type 0 where
  pub read : HasRead (read_all [] lists) a
  pub work : a.work ≡ lists_work v σ lists

-- those of these lists that have two numbers or more were counted
abbrev pub AreCountedPairs : Numbered → CodeImages → List (List ℕ) → ReadImages → Type 0
AreCountedPairs v σ lists a = AreCounted v σ (filter has_two_or_more_items lists) a

-- the lists of the pairs of variables were made and counted
pub record AreMadeCounted (v : Numbered) (σ : CodeImages) (lists : List (List ℕ)) (a : ReadImages) : Type 0 where
  pub made : List (List ℕ)
  pub reordered : AreReordered lists made
  pub counted : AreCountedPairs v σ made a

-- the work of these lists was counted
abbrev pub HasCountedLists : Numbered → CodeImages → List (List ℕ) → Metered → Metered → Type 0
HasCountedLists v σ lists m m' = m' ≡ with_work m (lists_work v σ (filter has_two_or_more_items lists))

-- the lists of the pairs of variables were made, and their work counted
pub record HasCountedMade (v : Numbered) (σ : CodeImages) (lists : List (List ℕ)) (m m' : Metered) : Type 0 where
  pub made : List (List ℕ)
  pub reordered : AreReordered lists made
  pub counted : HasCountedLists v σ made m m'

-- with these lists a count is over a bound
abbrev pub ArePastLists : (ℕ → Bool) → Numbered → CodeImages → List (List ℕ) → Type 0
ArePastLists over v σ lists = IsTrue (over (lists_work v σ (filter has_two_or_more_items lists)))

-- the first lists of the pairs of variables were made, and with these a count is over a bound
pub record AreMadePast (over : ℕ → Bool) (v : Numbered) (σ : CodeImages) (lists : List (List ℕ)) : Type 0 where
  pub count : ℕ
  pub made : List (List ℕ)
  pub reordered : AreReordered (take count lists) made
  pub past : ArePastLists over v σ made

-- the count of the meter is past its limit when it has counted this much more
abbrev pub is_past_with : Metered → ℕ → Bool
is_past_with m work = is_past (with_work m work)

-- beside the weight of the results, the count of the meter is past its limit with this much more
abbrev pub is_past_beside : HeldResults → Metered → ℕ → Bool
is_past_beside held m work = is_past_with (with_work m held.results.weight) work

-- ---- citations and items

-- the disjointness of a citation of the assertion at a with these images was counted
abbrev pub HasCountedPairs : ProofContext → ℕ → CodeImages → Metered → Metered → Type 0
HasCountedPairs context a ρ m m' =
    (s : Stmt) → stmt_at context.frames.now.statements a ≡ Some s
    → m' ≡ with_work m (disjointness (before context.frames.now.statements a) s (before context.frames.now.statements context.at) (images_of_names context.frames.now.names ρ))

-- with the disjointness of a citation of the assertion at a with these images the meter is past its
-- limit
abbrev pub IsPastPairs : ProofContext → ℕ → CodeImages → Metered → Type 0
IsPastPairs context a ρ m =
    (s : Stmt) → stmt_at context.frames.now.statements a ≡ Some s
    → IsTrue (is_past_with m (disjointness (before context.frames.now.statements a) s (before context.frames.now.statements context.at) (images_of_names context.frames.now.names ρ)))

-- in the context of a proof, what an item gives that counts this much besides its own result
abbrev pub Gives : ProofContext → Item → HeldResults → HeldResults → ℕ → Bool → Type 0
Gives context item old new cost ok =
    step (before context.frames.now.statements context.at) item (named context.frames.now.names old.results) ≡ outcome_of cost ok context.frames.now.names old.results new.results

-- a citation of the assertion at a, besides 1, its size and its own result, was counted
pub record HasCountedFit (context : ProofContext) (a : ℕ) (old new : HeldResults) (m m' : Metered) (ok : Bool) : Type 0 where
  pub extra : ℕ
  pub metered : m' ≡ with_work m extra
  pub gives : (label : Name) (s : Stmt) → Carries context.frames.now.statements a s label → Gives context (Cite label) old new (1 + assertion_size (before context.frames.now.statements a) s + extra) ok

-- the item, besides 1 and its own result, was counted
pub record HasCountedItem (context : ProofContext) (item : Item) (old new : HeldResults) (m m' : Metered) (ok : Bool) : Type 0 where
  pub extra : ℕ
  pub metered : m' ≡ with_work m extra
  pub gives : Gives context item old new (1 + extra) ok

-- the same for a label with this meaning
abbrev pub HasCountedEntry : ProofContext → LabelEntry → HeldResults → HeldResults → Metered → Metered → Bool → Type 0
HasCountedEntry context entry old new m m' ok = (label : Name) → IsEntryIn context label entry → HasCountedItem context (Cite label) old new m m' ok

-- in the context of a proof, what an item counts
abbrev pub item_work : ProofContext → Item → HeldResults → ℕ
item_work context item old = (step (before context.frames.now.statements context.at) item (named context.frames.now.names old.results)).work

-- behind results of this weight the result is not too heavy, and with its length the meter is past
-- its limit
pub record IsPastResult (weight : ℕ) (e : List ℕ) (m : Metered) : Type 0 where
  pub light : weight + length e ≤ weight_limit
  pub past : IsTrue (is_past_with m (weight + length e))

-- with a part of what a citation of the assertion at a counts, besides 1 and its size, the meter is
-- past its limit
pub record IsPastFit (context : ProofContext) (a : ℕ) (old : HeldResults) (m : Metered) : Type 0 where
  pub extra : ℕ
  pub past : IsTrue (is_past_beside old m extra)
  pub within : (label : Name) (s : Stmt) → Carries context.frames.now.statements a s label → 1 + assertion_size (before context.frames.now.statements a) s + extra ≤ item_work context (Cite label) old

-- with a part of what the item counts the meter is past its limit
pub record IsPastItem (context : ProofContext) (item : Item) (old : HeldResults) (m : Metered) : Type 0 where
  pub extra : ℕ
  pub past : IsTrue (is_past_beside old m extra)
  pub within : extra ≤ item_work context item old

-- the same for a label with this meaning
abbrev pub IsPastEntry : ProofContext → LabelEntry → HeldResults → Metered → Type 0
IsPastEntry context entry old m = (label : Name) → IsEntryIn context label entry → IsPastItem context (Cite label) old m

-- in the context of a proof, what items count from the beginning
abbrev pub work_in : ProofContext → List Item → ℕ
work_in context items = items_work (before context.frames.now.statements context.at) items start

-- behind this answer the work was counted; or it is too costly, and the work is past the limit
abbrev pub HasCountedAnswer : ℕ → Metered → Metered → Answer → Type 0
HasCountedAnswer work m m' Proved = m' ≡ with_work m work
HasCountedAnswer work m m' Wrong = m' ≡ with_work m work
HasCountedAnswer work m m' TooCostly = IsTrue (is_past (with_work m work))

-- the same for the work of a proof of the statement at `at`
abbrev pub HasCountedProof : Database → ℕ → List Name → Metered → Metered → Answer → Type 0
HasCountedProof S at tokens m m' answer = (s : Stmt) → stmt_at S at ≡ Some s → HasCountedAnswer (proof_work (before S at) s tokens) m m' answer
