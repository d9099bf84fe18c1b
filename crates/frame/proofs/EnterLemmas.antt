-- A statement is entered: the new entry has its meaning, and the storage has its parts.
use Rattle.frame.proofs.Words.{sym, ◌∙◌, ap, subst, arith, length-append, inl, inr, ◌≡◌, ℕ, List, [], ◌∷◌, ◌++◌, length, take, slice_get, Option, Some, true, refl, ◌+◌, ◌<◌, ◌⊎◌, map, length-map, take-append-le, map_push, same_Some, take-append_seam, name_at-last, Name, Stmt, Database, bare, label_of, expr_of, stays_open, declared_with, IsRecordedBy, IsLegal, name_at, decode, with_names, symbols_declared_by, symbols_in, symbols_of, symbols_after, labels_of, prepend_option, AreNumbers, AreVariableNumbers, AreRecorded, IsNumberingOf, numbering-after, recorded-after, symbols_of-append, labels_of-append, AreBelow, Assertion, Entry, entry_by, Storage, names_in, labels_in, stmt_by, stmt_of, statements_of, option_position, positions_from, AreAllLegal, AreStored, IsKeptOf, AreKept, is_labelled_kind, kind_of, IsLabelBelow, HasTwoSymbolsIfFloat, HasMoreNames, AreNumbered, LastActive, last_active_of, naming_of, get-last, Extends, get-push, extends-length, bare-same, symbols_declared_by-bare, declared_with-bare, legal-bare, EntryHeader, IsEntryHeader, IsEntryAfter, is_assertion}
use Rattle.std.specs.Prelude.{◌^◌}
use Rattle.frame.proofs.DeclaredSymbolLemmas.{codes-below}
use Rattle.frame.proofs.NamingLemmas.{stored-naming, naming_of-append, symbols-extend}
use Rattle.frame.proofs.StoredOneMore.{numbered-at, statements-more, stmt-more, numbered-push, positions_from-push, legal-push, stays-push}
use Rattle.frame.proofs.LabelLemmas.{label-below-at}
use Rattle.mm_read.specs.declared.stmt.Stmt.TheVariants as stmt

-- ---- a statement by its kind, its label and its symbols

stands-for : (s : Stmt) (labels : List Name) → stmt_by (kind_of s) (name_at (labels ++ prepend_option (label_of s) []) (length labels)) (symbols_in s) ≡ bare s
stands-for (stmt.Float label constant variable) labels = ap (λ x. stmt.Float x constant variable) (name_at-last labels label)
stands-for (stmt.Ess label expr) labels = ap (λ x. stmt.Ess x expr) (name_at-last labels label)
stands-for (stmt.Axiom label expr) labels = ap (λ x. stmt.Axiom x expr) (name_at-last labels label)
stands-for (stmt.Prove label expr proof) labels = ap (λ x. stmt.Prove x expr []) (name_at-last labels label)
stands-for s labels = refl

label-below : (s : Stmt) (labels : List Name) → IsLabelBelow (kind_of s) (length labels) (length (labels ++ prepend_option (label_of s) []))
label-below s labels = λ k. let n = length-append labels (prepend_option (label_of s) []) in omega (arith, n, has-label s k)
  where
    has-label : (t : Stmt) → is_labelled_kind (kind_of t) ≡ true → length (prepend_option (label_of t) []) ≡ 1
    has-label (stmt.Float label constant variable) h = refl
    has-label t h = cc

has-two : (s : Stmt) (names : List Name) (codes : List ℕ) → decode names codes ≡ symbols_in s → HasTwoSymbolsIfFloat (kind_of s) codes
has-two (stmt.Float label constant variable) names codes stand = sym (length-map codes (name_at names)) ∙ ap length stand
has-two s names codes stand = tt

pub label_of-bare : (s : Stmt) → label_of (bare s) ≡ label_of s
label_of-bare s = bare-same label_of (λ l e p. refl) s

pub kind_of-bare : (s : Stmt) → kind_of (bare s) ≡ kind_of s
kind_of-bare s = bare-same kind_of (λ l e p. refl) s

-- the numbers of an assertion are those of the symbols of its expression
pub next-bare : (k : Storage) (codes : List ℕ) (s : Stmt) → is_assertion s ≡ true → AreNumbers (with_names (names_in k) (symbols_declared_by s)) (symbols_in s) codes
    → AreBelow (length (names_in k)) codes × (decode (names_in k) codes ≡ expr_of (bare s))
next-bare k codes (stmt.Axiom label expr) a n = (codes-below (names_in k) codes n.0, n.1)
next-bare k codes (stmt.Prove label expr proof) a n = (codes-below (names_in k) codes n.0, n.1)
next-bare k codes s a n = cc

-- the entry's header, the declarations of the statement, and its numbers as recorded before and
-- after
pub record IsEntered (old new : Storage) (s : Stmt) (h : EntryHeader) (before after : Option (List ℕ)) : Type 0 where
  pub stored : AreStored old
  pub legal : IsLegal (statements_of old) s
  pub header : IsEntryHeader old (bare s) h
  pub declared : new.numbering ≡ declared_with old.numbering s
  pub recorded : AreRecorded (with_names (names_in old) (symbols_declared_by s)) (symbols_in s) before
  pub recorded_after : IsRecordedBy new.numbering s before after

module _ (old new : Storage) (s : Stmt) (h : EntryHeader) (before after : Option (List ℕ)) (codes : List ℕ) (e : IsEntered old new s h before after) (are : after ≡ Some codes) where
  abbrev pub S : Database
  S = statements_of old

  pub named : IsNumberingOf (S ++ bare s ∷ []) new.numbering
  named =
      subst (IsNumberingOf (S ++ bare s ∷ [])) (declared_with-bare old.numbering s ∙ sym e.declared)
      (numbering-after S (bare s) old.numbering (legal-bare S s e.legal) (stored-naming old e.stored))

  labels : labels_in new ≡ labels_in old ++ prepend_option (label_of s) []
  labels = named.labels ∙ (labels_of-append S (bare s ∷ []) ∙ (ap (λ o. labels_of S ++ prepend_option o []) (label_of-bare s) ∙ ap (λ ls. ls ++ prepend_option (label_of s) []) (sym e.stored.kept.labels_kept)))

  numbers-after : AreNumbers (symbols_after S s) (symbols_in s) codes
  numbers-after =
      subst (λ (o : Option (List ℕ)). AreRecorded (symbols_after S s) (symbols_in s) o) are
      (recorded-after S s old.numbering before after e.legal (stored-naming old e.stored) (rw e.declared at e.recorded_after) (rw e.stored.kept.names_kept at e.recorded))

  numbers : AreNumbers (names_in new) (symbols_in s) codes
  numbers = subst (λ (N : List Name). AreNumbers N (symbols_in s) codes) (sym (named.symbols ∙ (symbols_of-append S (bare s) ∙ ap (with_names (symbols_of S)) (symbols_declared_by-bare s)))) numbers-after

  kind : h.kind ≡ kind_of s
  kind = e.header.kind ∙ kind_of-bare s

  pub entered-stands : (a : Assertion) → stmt_of (names_in new) (labels_in new) (entry_by h codes a) ≡ bare s
  entered-stands a = rw (kind, e.header.label, labels, numbers.1) (stands-for s (labels_in old))

  pub entered-below : AreBelow (length (names_in new)) codes
  entered-below = codes-below (names_in new) codes numbers.0

  pub entered-label : IsLabelBelow h.kind h.before.label_count (length (labels_in new))
  entered-label = rw (kind, e.header.label, labels) (label-below s (labels_in old))

  pub entered-two : HasTwoSymbolsIfFloat h.kind codes
  entered-two = subst (λ q. HasTwoSymbolsIfFloat q codes) (sym kind) (has-two s (names_in new) codes numbers.1)

-- ---- the changes to the parts of the storage

variable-numbers : (names : List Name) (s : Stmt) (codes : List ℕ) → AreNumbers names (symbols_in s) codes → AreVariableNumbers names s codes
variable-numbers names (stmt.Var xs) codes n = n
variable-numbers names (stmt.Float label constant variable) codes n = n
variable-numbers names s codes n = tt

-- the changes that the call makes to the parts of the storage
pub record IsExtended (old new : Storage) (s : Stmt) (h : EntryHeader) (a : Assertion) (codes : List ℕ) (entries : List Entry) (last_active : LastActive) : Type 0 where
  pub grown : HasMoreNames old new
  pub few : length (names_in new) < 2 ^ 31
  pub positions : new.positions.items ≡ old.positions.items ++ option_position (label_of s) (length old.entries + 1) []
  pub kept : IsKeptOf old (bare s) a
  pub pushed : entries ≡ new.entries ++ entry_by h codes a ∷ []
  pub linked : last_active ≡ last_active_of (statements_of old ++ bare s ∷ [])

module _ {old new : Storage} {s : Stmt} {h : EntryHeader} {a : Assertion} {codes : List ℕ} {before after : Option (List ℕ)} {entries : List Entry} {last_active : LastActive}
    (x : IsEntered old new s h before after) (are : after ≡ Some codes) (p : IsExtended old new s h a codes entries last_active) where
  abbrev e : Entry
  e = entry_by h codes a

  now : IsNumberingOf (statements_of old ++ bare s ∷ []) new.numbering
  now = named old new s h before after codes x are

  legal : IsLegal (statements_of old) (bare s)
  legal = legal-bare (statements_of old) s x.legal

  entries-more : entries ≡ old.entries ++ e ∷ []
  entries-more = p.pushed ∙ ap (λ q. q ++ e ∷ []) p.grown.entries

  names-extend : Extends (names_in old) (names_in new)
  names-extend = symbols-extend old.numbering new.numbering p.grown.numbering

  labels-extend : Extends (labels_in old) (labels_in new)
  labels-extend = (labels_of (bare s ∷ []), now.labels ∙ (labels_of-append (statements_of old) (bare s ∷ []) ∙ ap (λ r. r ++ labels_of (bare s ∷ [])) (sym x.stored.kept.labels_kept)))

  stands : stmt_of (names_in new) (labels_in new) e ≡ bare s
  stands = entered-stands old new s h before after codes x are a

  pub pushed-statements : map (stmt_of (names_in new) (labels_in new)) entries ≡ statements_of old ++ bare s ∷ []
  pushed-statements =
      ap (map (stmt_of (names_in new) (labels_in new))) entries-more
      ∙ (map_push (stmt_of (names_in new) (labels_in new)) old.entries e
      ∙ (ap (λ r. r ++ stmt_of (names_in new) (labels_in new) e ∷ []) (statements-more (names_in old) (names_in new) (labels_in old) (labels_in new) old.entries names-extend labels-extend x.stored.kept.coded)
      ∙ ap (λ t. statements_of old ++ t ∷ []) stands))

  -- there are as many statements as entries
  len : length (statements_of old) ≡ length old.entries
  len = length-map old.entries (stmt_of (names_in old) (labels_in old))

  -- the statements in front of an earlier entry, or before the new one, are as before
  early : (i : ℕ) → i < length old.entries → take i (map (stmt_of (names_in new) (labels_in new)) entries) ≡ take i (statements_of old)
  early i lt = ap (take i) pushed-statements ∙ take-append-le i (statements_of old) (bare s ∷ []) (omega (arith, lt, len))

  late : (i : ℕ) → i ≡ length old.entries → take i (map (stmt_of (names_in new) (labels_in new)) entries) ≡ statements_of old
  late i is = ap (take i) pushed-statements ∙ (ap (λ n. take n (statements_of old ++ bare s ∷ [])) (is ∙ sym len) ∙ take-append_seam (statements_of old) (bare s ∷ []))

  found : (i : ℕ) (d : Entry) → slice_get entries i ≡ Some d → ((i < length old.entries) × (slice_get old.entries i ≡ Some d)) ⊎ ((i ≡ length old.entries) × (e ≡ d))
  found i d h = get-push old.entries e d i (ap (λ r. slice_get r i) (sym entries-more) ∙ h)

  -- each entry has the last active statements before it
  linked' : (i : ℕ) (d : Entry) → slice_get entries i ≡ Some d → d.last_active ≡ last_active_of (take i (map (stmt_of (names_in new) (labels_in new)) entries))
  linked' i d h = by (found i d h)
    where
      by : ((i < length old.entries) × (slice_get old.entries i ≡ Some d)) ⊎ ((i ≡ length old.entries) × (e ≡ d)) → d.last_active ≡ last_active_of (take i (map (stmt_of (names_in new) (labels_in new)) entries))
      by (inl q) = x.stored.kept.linked i d q.1 ∙ ap last_active_of (sym (early i q.0))
      by (inr q) = ap (λ w. w.last_active) (sym q.1) ∙ (x.header.last_active ∙ (x.stored.kept.last ∙ ap last_active_of (sym (late i q.0))))

  -- each entry is as it was after the entries before it, and so is the new one
  each' : (i : ℕ) (d : Entry) → slice_get entries i ≡ Some d → IsEntryAfter (take i entries) (take i (map (stmt_of (names_in new) (labels_in new)) entries)) (stmt_of (names_in new) (labels_in new) d) d
  each' i d h = by (found i d h)
    where
      by : ((i < length old.entries) × (slice_get old.entries i ≡ Some d)) ⊎ ((i ≡ length old.entries) × (e ≡ d)) → IsEntryAfter (take i entries) (take i (map (stmt_of (names_in new) (labels_in new)) entries)) (stmt_of (names_in new) (labels_in new) d) d
      by (inl q) =
          let same : stmt_of (names_in new) (labels_in new) d ≡ stmt_of (names_in old) (labels_in old) d =
          stmt-more (names_in old) (names_in new) (labels_in old) (labels_in new) d names-extend labels-extend (numbered-at (length (names_in old)) (length (labels_in old)) old.entries x.stored.kept.coded i d q.1)
          (label-below-at (length (names_in old)) (length (labels_in old)) old.entries x.stored.kept.coded i d q.1) in
          let front : take i entries ≡ take i old.entries = ap (take i) entries-more ∙ take-append-le i old.entries (e ∷ []) (omega (arith, q.0)) in
          rw (early i q.0, same, front) (x.stored.kept.each i d q.1)
      by (inr q) =
          let front : take i entries ≡ old.entries = ap (take i) entries-more ∙ (ap (λ j. take j (old.entries ++ e ∷ [])) q.0 ∙ take-append_seam old.entries (e ∷ [])) in
          rw (late i q.0, front, ← q.1, stands) (record {
            numbered = rw (x.header.names, x.header.label) x.stored.kept.coded;
            label_count = x.header.label ∙ ap length x.stored.kept.labels_kept;
            name_count = x.header.names ∙ ap length x.stored.kept.names_kept;
            parts = p.kept;
            size = x.header.size;
          })

  -- the new entry has the numbers of the variables of a `$v`, and of the two symbols of a `$f`
  pub added-numbers : (d : Entry) → slice_get entries (length old.entries) ≡ Some d → AreVariableNumbers (symbols_after (statements_of old) s) s d.symbols
  added-numbers d g =
      let same : e ≡ d = same_Some e d (sym (ap (λ r. slice_get r (length old.entries)) entries-more ∙ get-last old.entries e) ∙ g) in
      subst (λ (w : Entry). AreVariableNumbers (symbols_after (statements_of old) s) s w.symbols) same (variable-numbers (symbols_after (statements_of old) s) s codes (numbers-after old new s h before after codes x are))

  pub kept-pushed : AreKept (names_in new) (labels_in new) new.positions.items entries last_active
  kept-pushed =
      let k = x.stored.kept in
      record {
        last = p.linked ∙ ap last_active_of (sym pushed-statements);
        linked = linked';
        stays = ap (stays_open 0) pushed-statements ∙ stays-push (statements_of old) (bare s) k.stays legal;
        legal = subst AreAllLegal (sym pushed-statements) (legal-push (statements_of old) (bare s) k.legal legal);
        names_kept = now.symbols ∙ ap symbols_of (sym pushed-statements);
        labels_kept = now.labels ∙ ap labels_of (sym pushed-statements);
        positions_kept = rw pushed-statements (p.positions ∙ rw (k.positions_kept, ← len, ← label_of-bare s) (ap (λ n. positions_from 1 (statements_of old) ++ option_position (label_of (bare s)) n []) (omega arith) ∙ sym (positions_from-push 1 (statements_of old) (bare s))));
        coded = subst (AreNumbered (length (names_in new)) (length (labels_in new))) (sym entries-more)
            (numbered-push (length (names_in old)) (length (names_in new)) (length (labels_in old)) (length (labels_in new)) old.entries e (extends-length (names_in old) (names_in new) names-extend) (extends-length (labels_in old) (labels_in new) labels-extend) k.coded
            (entered-below old new s h before after codes x are) (entered-label old new s h before after codes x are) (entered-two old new s h before after codes x are));
        each = each';
        few = p.few;
      }

-- the numbering with the names of the new statement is that of all statements
pub numbered-pushed : (old new : Storage) (s : Stmt) (T : Database) → AreStored old → new.numbering ≡ declared_with old.numbering s → T ≡ statements_of old ++ bare s ∷ [] → new.numbering ≡ naming_of T
numbered-pushed old new s T stored own same =
    own ∙ (sym (declared_with-bare old.numbering s) ∙ (ap (λ N. declared_with N (bare s)) stored.numbered ∙ (sym (naming_of-append (statements_of old) (bare s)) ∙ ap naming_of (sym same))))
