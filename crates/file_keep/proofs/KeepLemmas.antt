-- What a keep's file says after a change, and what a crash leaves.
use Rattle.file_keep.proofs.Words.{List, Some, [], ap, arith, false, refl, subst, sym, true≢false, ℕ, ◌+◌, ◌∙◌, ◌∷◌, ◌≡◌, ◌≤◌, Row, Value, View, IsClean, doubt, put_row, trimmed, KeptPart, Content, Says, node_row, row_at}
use Rattle.file_keep.proofs.RowLemmas.{alike, put_slot}
use Rattle.file_keep.specs.Rows.{ballot_columns, text_columns}
use Rattle.file_keep.specs.Tables.{HasTrees}
use Rattle.synod.proofs.CopyLemmas.{stays_whole}
use Rattle.file_keep.specs.Keeps.{IsKeep, Writes, changed_slot, is_settled, is_written, with_change}
use Rattle.file_keep.specs.declared.file_keep.Standing.{Standing}
use Rattle.file_keep.specs.declared.file_keep.Standing.TheVariants.{Settled, Written, Unread, Unwritten}
use Rattle.synod.specs.Record.{changed}
use Rattle.slots.proofs.MapReads.{put_same}
use Rattle.std.specs.Prelude.{IsTrue, Option}
use Rattle.synod.specs.declared.change.Change.{Change}
use Rattle.synod.specs.declared.change.Change.TheVariants.{Round, Promise, Entry}

-- the row of the node is put over the one that was there
node_put : {V : Type 0} (old new : Content V) → put_row (node_row new) (node_row old ∷ []) ≡ node_row new ∷ []
node_put old new = rw (alike 0)

pub says_change : {V : Type 0} (columns : V → List Value) (old new : View) (content : Content V) (change : Change V)
    → Says columns old.trees content → Writes columns old new (changed_slot change) (with_change content change) → Says columns new.trees (with_change content change)
says_change {V} columns old new content (Round r) says writes = record {
  accepted = writes.accepted ∙ says.accepted;
  texts = writes.texts ∙ says.texts;
  node = writes.node ∙ ap (λ (rows : List Row). put_row (node_row (with_change content (Round r))) rows) says.node ∙ node_put content (with_change content (Round r));
}
says_change {V} columns old new content (Promise b) says writes = record {
  accepted = writes.accepted ∙ says.accepted;
  texts = writes.texts ∙ says.texts;
  node = writes.node ∙ ap (λ (rows : List Row). put_row (node_row (with_change content (Promise b))) rows) says.node ∙ node_put content (with_change content (Promise b));
}
says_change {V} columns old new content (Entry s entry) says writes =
    let put = writes.entry entry (put_same content.kept.accepted s entry) in record {
      accepted = put.0 ∙ ap (λ (rows : List Row). put_row (row_at s (ballot_columns entry)) rows) says.accepted ∙ put_slot ballot_columns content.kept.accepted s entry;
      texts = put.1 ∙ ap (λ (rows : List Row). put_row (row_at s (text_columns columns entry)) rows) says.texts ∙ put_slot (text_columns columns) content.kept.accepted s entry;
      node = writes.node ∙ ap (λ (rows : List Row). put_row (node_row (with_change content (Entry s entry))) rows) says.node ∙ node_put content (with_change content (Entry s entry));
    }

abbrev pub content_of : {V : Type 0} → KeptPart V → ℕ → Content V
content_of kept n = record { kept = kept; changes = n }

content_after : {V : Type 0} (k l : KeptPart V) (n m : ℕ) (change : Change V) → l ≡ changed k change → m ≡ n + 1 → content_of l m ≡ with_change (content_of k n) change
content_after {V} k l n m change kept added = ap (λ (x : KeptPart V). content_of x m) kept ∙ ap (λ (x : ℕ). content_of (changed k change) x) added

-- what was put says the record with the change
pub says_stored : {V S : Type 0} (view : S → View) (columns : V → List Value) (mid put : S) (k l : KeptPart V) (n m : ℕ) (change : Change V) (slot : Option ℕ)
    → l ≡ changed k change → m ≡ n + 1 → slot ≡ changed_slot change → doubt (view mid).is_clean ≤ doubt (view put).is_clean
    → (IsClean (view mid) → Says columns (view mid).trees (content_of k n))
    → (IsClean (view put) → Writes columns (view mid) (view put) slot (content_of l m))
    → IsClean (view put) → Says columns (view put).trees (content_of l m)
says_stored {V} {S} view columns mid put k l n m change slot kept added sets clean written writes h =
    let after = content_after k l n m change kept added in
    let there = subst (λ (s : Option ℕ). Writes columns (view mid) (view put) s (with_change (content_of k n) change)) sets
    (subst (λ (d : Content V). Writes columns (view mid) (view put) slot d) after (writes h)) in
    subst (λ (d : Content V). Says columns (view put).trees d) (sym after)
    (says_change columns (view mid) (view put) (content_of k n) change (written (omega arith)) there)

-- the invariant of a keep whose transaction says the content
pub keep_written : {V S : Type 0} (view : S → View) (columns : V → List Value) (store : S) (content : Content V)
    → (IsClean (view store) → HasTrees (view store)) → (IsClean (view store) → Says columns (view store).trees content)
    → trimmed content.kept.accepted ≡ content.kept.accepted → IsKeep view columns store Written content
keep_written view columns store content trees says whole = record {
  trees = trees;
  settled = λ is _. absurd (true≢false (sym is));
  written = λ _. says;
  whole = whole;
}

settled_is_written : (standing : Standing) → IsTrue (is_settled standing) → IsTrue (is_written standing)
settled_is_written Settled is = is
settled_is_written Written is = refl
settled_is_written Unread is = is
settled_is_written Unwritten is = absurd (true≢false (sym is))

-- the invariant of a keep of whose file nothing is known
pub keep_in_doubt : {V S : Type 0} (view : S → View) (columns : V → List Value) (store : S) (standing : Standing) (content : Content V) → is_written standing ≡ false
    → (IsClean (view store) → HasTrees (view store)) → trimmed content.kept.accepted ≡ content.kept.accepted → IsKeep view columns store standing content
keep_in_doubt view columns store standing content unknown trees whole = record {
  trees = trees;
  settled = λ is _. absurd (true≢false (sym (settled_is_written standing is) ∙ unknown));
  written = λ is _. absurd (true≢false (sym is ∙ unknown));
  whole = whole;
}

-- the record with a change ends in an entry
pub whole_after : {V : Type 0} (k mid l : KeptPart V) (change : Change V) → mid ≡ k → l ≡ changed mid change → trimmed k.accepted ≡ k.accepted → trimmed l.accepted ≡ l.accepted
whole_after {V} k mid l change same is whole =
    stays_whole mid l (Some change) is (subst (λ (x : KeptPart V). trimmed x.accepted ≡ x.accepted) (sym same) whole)
