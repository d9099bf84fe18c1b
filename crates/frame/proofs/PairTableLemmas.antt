-- Pairs of variables in an active `$d`, and active variables, by the active statements that have a
-- symbol.
use Rattle.frame.proofs.Words.{and-true, or_assoc, or_comm, are_together, disjoint_symbols, ◌≡◌, ◌∙◌, ap, sym, arith, refl, ℕ, ◌+◌, ◌-◌, ◌<◌, Bool, true, false, cond, not, ◌||◌, ◌&&◌, ◌==◌, nat_eq, List, [], ◌∷◌, ◌++◌, length, map, take, slice_get, Option, Some, None, list_any, or-false, append_assoc, length-append, take-get, list_any-map, AllBelow, AreBelow, Name, has_name, name_at, decode, AreDistinct, Stmt, Database, Entry, Storage, stays_open, actives, actives_from, is_disj, is_var, is_variable, disjoint_names, variables, is_pair, active_disjoint_lists, names_in, labels_in, statements_of, stmt_of, AreStored, symbols_at, option_symbols, has_code, having_after, positions_with, IsOfKind, AreOfKind, AreListsOfPairs, have_both, subst, and_parts}
use Rattle.frame.proofs.ActivePositions.{actives-cons}
use Rattle.frame.proofs.FoundByNumber.{map-back}
use Rattle.frame.proofs.LegalAfter.{stands-at}
use Rattle.frame.proofs.StoredOneMore.{numbered-at}
use Rattle.frame.proofs.KindWalk.{AreLists, any-active, has-decode, same-number, disjoint_lists, variable_lists}
use Rattle.frame.proofs.PositionsWith.{AreIn, actives-in}
use Rattle.frame.proofs.PairsLemmas.{groups-any}

-- ---- the positions of the statements that have a symbol

swapped : (x y z : Bool) → ((x || y) || z) ≡ (y || (x || z))
swapped x y z = ap (λ b. b || z) (or_comm x y) ∙ or_assoc y x z

positions_with-any-after : (q : ℕ → Bool) (found : List ℕ) (es : List Entry) (c : ℕ) (ps : List (ℕ × Stmt)) → list_any q (having_after found es c ps) ≡ (list_any q found || list_any (λ p. has_code es c p.0 && q p.0) ps)
positions_with-any-after q found es c [] = sym (or-false (list_any q found))
positions_with-any-after q found es c (p ∷ ps) = by (has_code es c p.0) (positions_with-any-after q (cond (has_code es c p.0) (p.0 ∷ found) found) es c ps)
  where
    rest : Bool
    rest = list_any (λ r. has_code es c r.0 && q r.0) ps

    by : (b : Bool) → list_any q (having_after (cond (has_code es c p.0) (p.0 ∷ found) found) es c ps) ≡ (list_any q (cond b (p.0 ∷ found) found) || rest)
        → list_any q (having_after (cond (has_code es c p.0) (p.0 ∷ found) found) es c ps) ≡ (list_any q found || ((b && q p.0) || rest))
    by true e = e ∙ swapped (q p.0) (list_any q found) rest
    by false e = e

-- one of the positions with the symbol c passes a test exactly if one of all positions has c and
-- passes
pub positions_with-any : (q : ℕ → Bool) (es : List Entry) (c : ℕ) (ps : List (ℕ × Stmt)) → list_any q (positions_with es c ps) ≡ list_any (λ p. has_code es c p.0 && q p.0) ps
positions_with-any q es c ps = positions_with-any-after q [] es c ps

-- if one passes both tests, one passes the second
second-any : (f g : ℕ × Stmt → Bool) (ps : List (ℕ × Stmt)) → list_any (λ p. f p && g p) ps ≡ true → list_any g ps ≡ true
second-any f g [] e = e
second-any f g (p ∷ ps) e = by (f p) (g p) (second-any f g ps) e
  where
    by : (s t : Bool) → (list_any (λ q. f q && g q) ps ≡ true → list_any g ps ≡ true) → ((s && t) || list_any (λ q. f q && g q) ps) ≡ true → (t || list_any g ps) ≡ true
    by s true rest h = refl
    by true false rest h = rest h
    by false false rest h = rest h

-- ---- an active statement is at its position

abbrev pub AreThere : Database → (Stmt → Bool) → List (ℕ × Stmt) → Type 0
AreThere S kind [] = Unit {0}
AreThere S kind (p ∷ ps) = ((slice_get S (p.0 - 1) ≡ Some p.1) × (kind p.1 ≡ true)) × AreThere S kind ps

pub actives-there : (kind : Stmt → Bool) (whole front : Database) (at : ℕ) (S : Database) → at ≡ 1 + length front → whole ≡ front ++ S → AreThere whole kind (actives_from kind at S)
actives-there kind whole front at [] is cut = tt
actives-there kind whole front at (s ∷ S) is cut =
    let here : slice_get whole (at - 1) ≡ Some s = ap (slice_get whole) (omega (arith, is)) ∙ (ap (λ T. slice_get T (length front)) cut ∙ stands-at front s S) in
    let rest = actives-there kind whole (front ++ s ∷ []) (at + 1) S (omega (arith, is, length-append front (s ∷ []))) (cut ∙ sym (append_assoc front (s ∷ []) S)) in
    subst (AreThere whole kind) (sym (actives-cons kind at s S))
    ((elim (stays_open 0 S && kind s) as (λ b. (stays_open 0 S && kind s) ≡ b → AreThere whole kind (cond b ((at, s) ∷ actives_from kind (at + 1) S) (actives_from kind (at + 1) S))) [ true ↦ λ e. ((here, (and_parts (stays_open 0 S) (kind s) e).1), rest) | false ↦ λ e. rest ]) refl)

same-any : (kind : Stmt → Bool) (S : Database) (f g : ℕ × Stmt → Bool) (ps : List (ℕ × Stmt)) → AreThere S kind ps → ((p : ℕ × Stmt) → slice_get S (p.0 - 1) ≡ Some p.1 → kind p.1 ≡ true → f p ≡ g p) → list_any f ps ≡ list_any g ps
same-any kind S f g [] are same = refl
same-any kind S f g (p ∷ ps) are same = ap (λ b. b || list_any f ps) (same p are.0.0 are.0.1) ∙ ap (λ b. g p || b) (same-any kind S f g ps are.1 same)

-- ---- the pairs, by the storage

module _ (k : Storage) (stored : AreStored k) (d : AreDistinct (names_in k)) (m : ℕ) where
  abbrev N : List Name
  N = names_in k

  abbrev T : Database
  T = take m (statements_of k)

  -- an active statement has the number x exactly if its list has the name of x
  pub code-name : (kind : Stmt → Bool) (lists : Stmt → List Name) → AreLists kind lists → (x : ℕ) → x < length N → (p : ℕ × Stmt) → slice_get T (p.0 - 1) ≡ Some p.1 → kind p.1 ≡ true
      → has_code k.entries x p.0 ≡ has_name (name_at N x) (lists p.1)
  code-name kind lists are x lt p stands of_kind =
      let g = take-get m (p.0 - 1) (statements_of k) p.1 stands in
      let e = map-back (stmt_of N (labels_in k)) k.entries (p.0 - 1) p.1 g.1 in
      let list : lists p.1 ≡ decode N e.0.symbols = ap lists e.2 ∙ are.stand N (labels_in k) e.0 (ap kind (sym e.2) ∙ of_kind) in
      ap (λ o. list_any (λ y. nat_eq x y) (option_symbols o)) e.1
      ∙ (has-decode N x e.0.symbols d lt (numbered-at (length N) (length (labels_in k)) k.entries stored.kept.coded (p.0 - 1) e.0 e.1) ∙ ap (has_name (name_at N x)) (sym list))

  pub there : (kind : Stmt → Bool) → AreThere T kind (actives kind T)
  there kind = actives-there kind T [] 1 T refl refl

  pub variable-is : (x : ℕ) (st : List ℕ) → x < length N → st ≡ positions_with k.entries x (actives is_var T) → list_any (λ y. true) st ≡ is_variable T (name_at N x)
  variable-is x st lt is =
      ap (list_any (λ y. true)) is
      ∙ (positions_with-any (λ y. true) k.entries x (actives is_var T)
      ∙ (same-any is_var T (λ p. has_code k.entries x p.0 && true) (λ p. has_name (name_at N x) (variables p.1)) (actives is_var T) (there is_var)
      (λ p s o. and-true (has_code k.entries x p.0) ∙ code-name is_var variables variable_lists x lt p s o)
      ∙ any-active (has_name (name_at N x)) T variable_lists refl))

  -- x and y are a pair exactly if they are different and an active `$d` that has x has y
  pub pair-is : (x y : ℕ) (st : List ℕ) → x < length N → y < length N → st ≡ positions_with k.entries x (actives is_disj T)
      → is_pair T (name_at N x) (name_at N y) ≡ (not (x == y) && list_any (λ p. has_code k.entries y p) st)
  pair-is x y st a b is =
      let X = name_at N x in let Y = name_at N y in
      let both : list_any (λ p. has_code k.entries y p) st ≡ list_any (λ names. has_name X names && has_name Y names) (active_disjoint_lists T) =
      ap (list_any (λ p. has_code k.entries y p)) is
      ∙ (positions_with-any (λ p. has_code k.entries y p) k.entries x (actives is_disj T)
      ∙ (same-any is_disj T (λ p. has_code k.entries x p.0 && has_code k.entries y p.0) (λ p. has_name X (disjoint_names p.1) && has_name Y (disjoint_names p.1)) (actives is_disj T) (there is_disj)
      (λ p s o. ap (λ t. t && has_code k.entries y p.0) (code-name is_disj disjoint_names disjoint_lists x a p s o) ∙ ap (λ t. has_name X (disjoint_names p.1) && t) (code-name is_disj disjoint_names disjoint_lists y b p s o))
      ∙ sym (groups-any (λ names. has_name X names && has_name Y names) T refl))) in
      ap (λ t. not t && list_any (λ names. has_name X names && has_name Y names) (active_disjoint_lists T)) (sym (same-number N x y d a b)) ∙ ap (λ t. not (nat_eq x y) && t) (sym both)

  -- x and y are a pair exactly if they are different and an active `$d` has both
  pub together-is : (x y : ℕ) → x < length N → y < length N → are_together (disjoint_symbols k.entries T) x y ≡ is_pair T (name_at N x) (name_at N y)
  together-is x y a b =
      let X = name_at N x in let Y = name_at N y in
      let both : have_both (disjoint_symbols k.entries T) x y ≡ list_any (λ names. has_name X names && has_name Y names) (active_disjoint_lists T) =
      sym (list_any-map (λ (q : ℕ × Stmt). symbols_at k.entries q.0) (λ list. list_any (λ c. x == c) list && list_any (λ c. y == c) list) (actives is_disj T))
      ∙ (same-any is_disj T (λ p. has_code k.entries x p.0 && has_code k.entries y p.0) (λ p. has_name X (disjoint_names p.1) && has_name Y (disjoint_names p.1)) (actives is_disj T) (there is_disj)
      (λ p s o. ap (λ t. t && has_code k.entries y p.0) (code-name is_disj disjoint_names disjoint_lists x a p s o) ∙ ap (λ t. has_name X (disjoint_names p.1) && t) (code-name is_disj disjoint_names disjoint_lists y b p s o))
      ∙ sym (groups-any (λ names. has_name X names && has_name Y names) T refl)) in
      ap (λ t. not (nat_eq x y) && t) both ∙ ap (λ t. not t && list_any (λ names. has_name X names && has_name Y names) (active_disjoint_lists T)) (same-number N x y d a b)

  pub positions_with-of-kind : (kind : Stmt → Bool) (es : List Entry) (c : ℕ) → AreOfKind kind (statements_of k) (positions_with es c (actives kind T))
  positions_with-of-kind kind es c = after [] (actives kind T) tt (there kind) (actives-in kind 1 1 (length T) T (omega arith) (omega arith))
    where
      after : (found : List ℕ) (ps : List (ℕ × Stmt)) → AreOfKind kind (statements_of k) found → AreThere T kind ps → AreIn 1 (length T) ps → AreOfKind kind (statements_of k) (having_after found es c ps)
      after found [] are stand within = are
      after found (p ∷ ps) are stand within =
          let one : IsOfKind kind (statements_of k) p.0 = record { one = within.0.0; statement = p.1; stands = (take-get m (p.0 - 1) (statements_of k) p.1 stand.0.0).1; of_kind = stand.0.1 } in
          by found p ps (has_code es c p.0) (after (p.0 ∷ found) ps (one, are) stand.1 within.1) (after found ps are stand.1 within.1)
        where
          by : (found : List ℕ) (p : ℕ × Stmt) (ps : List (ℕ × Stmt)) (b : Bool) → AreOfKind kind (statements_of k) (having_after (p.0 ∷ found) es c ps) → AreOfKind kind (statements_of k) (having_after found es c ps)
              → AreOfKind kind (statements_of k) (having_after (cond b (p.0 ∷ found) found) es c ps)
          by found p ps true with without = with
          by found p ps false with without = without

  symbols-low : (o : Option Entry) (p : ℕ) → slice_get k.entries (p - 1) ≡ o → AreBelow (length N) (option_symbols o)
  symbols-low None p e = tt
  symbols-low (Some x) p e = numbered-at (length N) (length (labels_in k)) k.entries stored.kept.coded (p - 1) x e

  pub row-low : (st : List ℕ) → AllBelow (length N) (map (symbols_at k.entries) st)
  row-low [] = tt
  row-low (p ∷ st) = (symbols-low (slice_get k.entries (p - 1)) p refl, row-low st)

  pub row-is : (x y : ℕ) (st : List ℕ) → x < length N → y < length N → st ≡ positions_with k.entries x (actives is_disj T)
      → is_pair T (name_at N x) (name_at N y) ≡ (not (x == y) && list_any (λ list. list_any (λ c. y == c) list) (map (symbols_at k.entries) st))
  row-is x y st a b is = pair-is x y st a b is ∙ ap (λ t. not (nat_eq x y) && t) (list_any-map (symbols_at k.entries) (λ list. list_any (λ c. nat_eq y c) list) st)

  -- two symbols of one active `$d` are a pair
  pub row-together : (x : ℕ) (st : List ℕ) → st ≡ positions_with k.entries x (actives is_disj T) → AreListsOfPairs (record { statements = T; names = N }) (map (symbols_at k.entries) st)
  row-together x st is = record { each = two }
    where
      two : (a b : ℕ) → a < length N → b < length N → (a == b) ≡ false → have_both (map (symbols_at k.entries) st) a b ≡ true → is_pair T (name_at N a) (name_at N b) ≡ true
      two a b la lb other one =
          let es = k.entries in
          let listed : List (ℕ × Stmt) = actives is_disj T in
          let both : ℕ → Bool = λ p. has_code es a p && has_code es b p in
          let in_row : list_any both st ≡ true = list_any-map (symbols_at es) (λ list. list_any (λ c. nat_eq a c) list && list_any (λ c. nat_eq b c) list) st ∙ one in
          let of_row : list_any both (positions_with es x listed) ≡ true = ap (list_any both) (sym is) ∙ in_row in
          let own = positions_with es a listed in
          pair-is a b own la lb refl
          ∙ (ap (λ t. not t && list_any (λ p. has_code es b p) own) other
          ∙ (positions_with-any (λ p. has_code es b p) es a listed
          ∙ second-any (λ p. has_code es x p.0) (λ p. both p.0) listed (sym (positions_with-any both es x listed) ∙ of_row)))
