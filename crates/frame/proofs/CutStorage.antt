-- The storage after it is cut to its first statements, and after added statements are removed
-- again.
use Rattle.frame.proofs.Words.{sym, ◌∙◌, ap, subst, arith, take-take, ◌≡◌, ℕ, ◌+◌, ◌<◌, ◌≤◌, List, length, map, take, drop, slice_get, Some, refl, suc, [], ◌∷◌, Option, None, take-map, take-append-drop, take_at, length-map, Name, Database, IsNumberingOf, Declared, declared_symbols, declared_labels, stays_open, label_of, symbols_of, labels_of, prepend_option, LastActive, Entry, Disj, Var, last_active_of, stmt_of, statements_of, positions_from, AreAllLegal, names_in, labels_in, option_position, AreNumbered, HasMoreAtEnd, Storage, naming_of, AreKept, AreStored, Extends, extends-length, extends-take, take-get, labels_of-append, AreKeptUntil, IsEntryAfter}
use Rattle.frame.proofs.FloatLemmas.{floats-back}
use Rattle.frame.proofs.TableLemmas.{table-back}
use Rattle.frame.proofs.DeclaredSymbolLemmas.{symbols_of-front}
use Rattle.frame.proofs.FoundByNumber.{kept-front}
use Rattle.frame.proofs.NamingLemmas.{naming-all, naming-length, naming_of-front}
use Rattle.frame.proofs.OpenLemmas.{stays_open-front}
use Rattle.frame.proofs.StoredOneMore.{positions_from-append, statements-more, stmt-more, numbered-at}
use Rattle.frame.proofs.LabelLemmas.{label-below-at}
use Rattle.frame.proofs.SymbolNumberLemmas.{take-extends}

-- ---- labels and positions

length-option : (o : Option Name) (at : ℕ) (ps : List ℕ) (ls : List Name) → length ps ≡ length ls → length (option_position o at ps) ≡ length (prepend_option o ls)
length-option None at ps ls h = h
length-option (Some x) at ps ls h = ap suc h

pub length-positions : (at : ℕ) (S : Database) → length (positions_from at S) ≡ length (labels_of S)
length-positions at [] = refl
length-positions at (s ∷ S) = length-option (label_of s) at (positions_from (at + 1) S) (labels_of S) (length-positions (at + 1) S)

labels-front : (n : ℕ) (S : Database) → take (length (labels_of (take n S))) (labels_of S) ≡ labels_of (take n S)
labels-front n S =
    ap (take (length (labels_of (take n S)))) (ap labels_of (sym (take-append-drop n S)) ∙ labels_of-append (take n S) (drop n S))
    ∙ take_at (labels_of (take n S)) (labels_of (drop n S)) (length (labels_of (take n S))) refl

positions-front : (n : ℕ) (S : Database) → take (length (labels_of (take n S))) (positions_from 1 S) ≡ positions_from 1 (take n S)
positions-front n S =
    ap (take (length (labels_of (take n S)))) (ap (positions_from 1) (sym (take-append-drop n S)) ∙ positions_from-append 1 (take n S) (drop n S))
    ∙ take_at (positions_from 1 (take n S)) (positions_from (1 + length (take n S)) (drop n S)) (length (labels_of (take n S))) (length-positions 1 (take n S))

-- ---- the parts after the cut, where e is the entry after the first n

pub record IsCut (names labels : List Name) (positions : List ℕ) (entries : List Entry)
    (names' labels' : List Name) (positions' : List ℕ) (entries' : List Entry) (links' : LastActive) (n : ℕ) (e : Entry) : Type 0 where
  pub at : slice_get entries n ≡ Some e
  pub names_cut : names' ≡ symbols_of (take n (map (stmt_of names labels) entries))
  pub labels_cut : labels' ≡ labels_of (take n (map (stmt_of names labels) entries))
  pub positions_cut : positions' ≡ take e.label_count positions
  pub entries_cut : entries' ≡ take n entries
  pub last_active_back : links' ≡ e.last_active

module _ {names labels : List Name} {positions : List ℕ} {entries : List Entry} {last_active : LastActive}
    {names' labels' : List Name} {positions' : List ℕ} {entries' : List Entry} {links' : LastActive} {n : ℕ} {e : Entry}
    (k : AreKept names labels positions entries last_active)
    (p : IsCut names labels positions entries names' labels' positions' entries' links' n e) where
  abbrev pub S : Database
  S = map (stmt_of names labels) entries

  -- the entry after the first n has the counts of the names and labels before it
  counts : IsEntryAfter (take n entries) (take n S) (stmt_of names labels e) e
  counts = k.each n e p.at

  pub names-front : Extends names' names
  names-front =
      let m = length (symbols_of (take n S)) in
      subst (λ r. Extends r names) (ap (take m) k.names_kept ∙ (symbols_of-front n S ∙ sym p.names_cut)) (extends-take m names)

  labels-extend : Extends labels' labels
  labels-extend =
      let m = length (labels_of (take n S)) in
      subst (λ r. Extends r labels) (ap (take m) k.labels_kept ∙ (labels-front n S ∙ sym p.labels_cut)) (extends-take m labels)

  names-count : length names' ≡ e.symbol_count
  names-count = ap length p.names_cut ∙ sym counts.name_count

  within : e.symbol_count ≤ length names
  within = omega (arith, extends-length names' names names-front, names-count)

  labels-count : length labels' ≡ e.label_count
  labels-count = ap length p.labels_cut ∙ sym counts.label_count

  -- the first n entries use no other names and labels
  numbered : AreNumbered (length names') (length labels') (take n entries)
  numbered = rw (names-count, labels-count) counts.numbered

  pub cut-statements : map (stmt_of names' labels') entries' ≡ take n S
  cut-statements =
      ap (map (stmt_of names' labels')) p.entries_cut
      ∙ (sym (statements-more names' names labels' labels (take n entries) names-front labels-extend numbered) ∙ sym (take-map (stmt_of names labels) n entries))

  front-of : (i : ℕ) → i < n → take i (map (stmt_of names' labels') entries') ≡ take i S
  front-of i lt = ap (take i) cut-statements ∙ take-take i n S (omega (arith, lt))

  -- an entry that remains is one of the first n
  there : (i : ℕ) (d : Entry) → slice_get entries' i ≡ Some d → (i < n) × (slice_get entries i ≡ Some d)
  there i d h = take-get n i entries d (ap (λ r. slice_get r i) (sym p.entries_cut) ∙ h)

  -- an entry that remains is as it was after the entries before it
  each' : (i : ℕ) (d : Entry) → slice_get entries' i ≡ Some d → IsEntryAfter (take i entries') (take i (map (stmt_of names' labels') entries')) (stmt_of names' labels' d) d
  each' i d h =
      let q = there i d h in
      let lt = q.0 in
      let here = ap (λ r. slice_get r i) (sym p.entries_cut) ∙ h in
      let same : stmt_of names labels d ≡ stmt_of names' labels' d =
      stmt-more names' names labels' labels d names-front labels-extend (numbered-at (length names') (length labels') (take n entries) numbered i d here) (label-below-at (length names') (length labels') (take n entries) numbered i d here) in
      let front : take i entries' ≡ take i entries = ap (take i) p.entries_cut ∙ take-take i n entries (omega (arith, lt)) in
      rw (front, front-of i lt, ← same) (k.each i d q.1)

  pub kept-cut : AreKept names' labels' positions' entries' links'
  kept-cut = record {
    last = p.last_active_back ∙ (k.linked n e p.at ∙ ap last_active_of (sym cut-statements));
    linked = λ i d h. let q = there i d h in k.linked i d q.1 ∙ ap last_active_of (sym (front-of i q.0));
    stays = ap (stays_open 0) cut-statements ∙ stays_open-front 0 (take n S) (drop n S) (ap (stays_open 0) (take-append-drop n S) ∙ k.stays);
    legal = subst AreAllLegal (sym cut-statements) (kept-front S n k.legal);
    names_kept = p.names_cut ∙ ap symbols_of (sym cut-statements);
    labels_kept = p.labels_cut ∙ ap labels_of (sym cut-statements);
    positions_kept = p.positions_cut ∙ (ap (take e.label_count) k.positions_kept ∙ (ap (λ m. take m (positions_from 1 S)) counts.label_count ∙ (positions-front n S ∙ ap (positions_from 1) (sym cut-statements))));
    coded = subst (AreNumbered (length names') (length labels')) (sym p.entries_cut) numbered;
    each = each';
    few = let a = names-count in let f = k.few in omega (arith, a, within, f);
  }

-- ---- the numbering of the first statements

module _ (k : Storage) (n : ℕ) (e : Entry) (stored : AreStored k) (at : slice_get k.entries n ≡ Some e) where
  pub front-naming : IsNumberingOf (take n (statements_of k)) (naming_of (take n (statements_of k)))
  front-naming = naming-all (take n (statements_of k)) (kept-front (statements_of k) n stored.kept.legal)

  -- the entry after the first n has the count of the names before it
  pub numbering-front : take (e.symbol_count + e.label_count) k.numbering ≡ naming_of (take n (statements_of k))
  numbering-front =
      let counts = stored.kept.each n e at in
      let all = naming-length (take n (statements_of k)) (naming_of (take n (statements_of k))) front-naming in
      let count : e.symbol_count + e.label_count ≡ length (naming_of (take n (statements_of k))) = omega (arith, counts.name_count, counts.label_count, all) in
      ap (take (e.symbol_count + e.label_count)) stored.numbered ∙ (ap (λ m. take m (naming_of (statements_of k))) count ∙ naming_of-front n (statements_of k))

-- ---- after added statements are removed, everything is as before

-- `mid` has added parts, which are removed in `new`
pub record IsTakenBack (old mid new : Storage) : Type 0 where
  pub after : HasMoreAtEnd old mid
  pub numbering_cut : new.numbering ≡ take (length old.numbering) mid.numbering
  pub positions_cut : new.positions.items ≡ take (length (labels_in new)) mid.positions.items
  pub ends_cut : new.ends.items ≡ take (length mid.entries) mid.ends.items
  pub entries_cut : new.entries ≡ mid.entries
  pub floats_cut : AreKeptUntil (length mid.entries) mid.floats new.floats
  pub disjoints_cut : AreKeptUntil (length mid.entries) mid.disjoints new.disjoints
  pub variables_cut : AreKeptUntil (length mid.entries) mid.variables new.variables
  pub last_active_cut : new.last_active ≡ mid.last_active

module _ (old mid new : Storage) (stored : AreStored old) (t : IsTakenBack old mid new) where
  k : AreKept (names_in old) (labels_in old) old.positions.items old.entries old.last_active
  k = stored.kept

  back-numbering : new.numbering ≡ old.numbering
  back-numbering = t.numbering_cut ∙ take-extends old.numbering mid.numbering t.after.numbering

  back-names : names_in new ≡ names_in old
  back-names = ap declared_symbols back-numbering

  back-labels : labels_in new ≡ labels_in old
  back-labels = ap declared_labels back-numbering

  back-entries : new.entries ≡ old.entries
  back-entries = t.entries_cut ∙ t.after.entries

  back-statements : statements_of new ≡ statements_of old
  back-statements =
      ap (λ es. map (stmt_of (names_in new) (labels_in new)) es) back-entries
      ∙ ap (λ (N : Declared). map (stmt_of (declared_symbols N) (declared_labels N)) old.entries) back-numbering

  pub back-stored : AreStored new
  back-stored =
      let labels : length (labels_in new) ≡ length old.positions.items =
      ap length (back-labels ∙ k.labels_kept) ∙ (sym (length-positions 1 (statements_of old)) ∙ ap length (sym k.positions_kept)) in
      let all : length mid.entries ≡ length old.ends.items = ap length t.after.entries ∙ (sym (length-map old.entries (stmt_of (names_in old) (labels_in old))) ∙ sym stored.ended.count) in
      let ends : new.ends.items ≡ old.ends.items = t.ends_cut ∙ (ap (λ m. take m mid.ends.items) all ∙ take-extends old.ends.items mid.ends.items t.after.ends) in
      let positions : new.positions.items ≡ old.positions.items =
      t.positions_cut ∙ (ap (λ m. take m mid.positions.items) labels ∙ take-extends old.positions.items mid.positions.items t.after.positions) in
      let long : length mid.entries ≡ length old.entries = ap length t.after.entries in
      record {
        kept = rw (back-names, back-labels, positions, back-entries, t.last_active_cut, t.after.last_active) k;
        numbered = back-numbering ∙ (stored.numbered ∙ ap naming_of (sym back-statements));
        ended = rw (back-statements, ends) stored.ended;
        floats = rw back-entries (floats-back old.entries old.floats mid.floats new.floats stored.floats t.after.floats (subst (λ m. AreKeptUntil m mid.floats new.floats) long t.floats_cut));
        disjoints = rw back-entries (table-back Disj old.entries old.disjoints mid.disjoints new.disjoints stored.disjoints t.after.disjoints (subst (λ m. AreKeptUntil m mid.disjoints new.disjoints) long t.disjoints_cut));
        variables = rw back-entries (table-back Var old.entries old.variables mid.variables new.variables stored.variables t.after.variables (subst (λ m. AreKeptUntil m mid.variables new.variables) long t.variables_cut));
      }
