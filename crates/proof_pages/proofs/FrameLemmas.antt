-- The frame of an assertion is that of the assertion without its proof.
use Rattle.proof_pages.proofs.BlockWords.{◌≡◌, ℕ, zero, suc, ◌+◌, ◌≤◌, List, [], ◌∷◌, ◌++◌, length, take, map, codes, refl, ap, sym, ◌∙◌, append_assoc, arith, Option, Some, None, slice_get, true, flat_map, option_map, Result, Ok, Err, OnOk, append-nil, take_all, Name, Stmt, Prove, Database, decode, bare, bares, before, stmt_at, is_assertion, stmt_at-bares, hypotheses, mandatory_groups, HasAssertion, line_at, after_space, group_line, symbol_text, group_line_of_numbers, frame_lines}

-- a frame does not depend on the proof
pub hypotheses-bare : (S : Database) (s : Stmt) → hypotheses S (bare s) ≡ hypotheses S s
hypotheses-bare S (Prove label expr proof) = refl
hypotheses-bare S s = refl

pub groups-bare : (S : Database) (s : Stmt) → mandatory_groups S (bare s) ≡ mandatory_groups S s
groups-bare S (Prove label expr proof) = refl
groups-bare S s = refl

pub assertion-bare : (s : Stmt) → is_assertion (bare s) ≡ is_assertion s
assertion-bare (Prove label expr proof) = refl
assertion-bare s = refl

-- a consequence of an answer's property holds of the answer
pub on_ok : {T E P Q : Type 0} (r : Result T E) → (P → Q) → OnOk r P → OnOk r Q
on_ok (Ok v) f p = f p
on_ok (Err e) f p = tt

-- ---- a text for each item

module _ {A : Type 0} (f : A → List ℕ) where
  one_more : (xs : List A) (i : ℕ) (x : A) → slice_get xs i ≡ Some x → flat_map f (take (suc i) xs) ≡ flat_map f (take i xs) ++ f x
  one_more [] i x e = absurd (none_is e)
    where
      none_is : ◌≡◌ {A = Option A} None (Some x) → ⊥
      none_is bad = cc
  one_more (y ∷ xs) zero x e = let same : y ≡ x = cc in append-nil (f y) ∙ ap f same
  one_more (y ∷ xs) (suc i) x e = ap (λ l. f y ++ l) (one_more xs i x e) ∙ sym (append_assoc (f y) (flat_map f (take i xs)) (f x))

  pub more_items : (xs : List A) (i : ℕ) (x : A) (old mid new : List ℕ) → mid ≡ old ++ flat_map f (take i xs) → slice_get xs i ≡ Some x → new ≡ mid ++ f x
      → new ≡ old ++ flat_map f (take (i + 1) xs)
  more_items xs i x old mid new is there added =
      let next : suc i ≡ i + 1 = omega arith in
      added ∙ (ap (λ l. l ++ f x) is ∙ (append_assoc old (flat_map f (take i xs)) (f x)
      ∙ (ap (λ l. old ++ l) (sym (one_more xs i x there)) ∙ ap (λ n. old ++ flat_map f (take n xs)) next)))

  pub all_items : (xs : List A) (i : ℕ) (old new : List ℕ) → length xs ≤ i → new ≡ old ++ flat_map f (take i xs) → new ≡ old ++ flat_map f xs
  all_items xs i old new past is = is ∙ ap (λ l. old ++ flat_map f l) (take_all i xs past)

-- ---- groups by number

variables_by : (names : List Name) (group : List ℕ) → flat_map (symbol_text names) group ≡ flat_map after_space (decode names group)
variables_by names [] = refl
variables_by names (n ∷ group) = ap (λ l. symbol_text names n ++ l) (variables_by names group)

line_by : (names : List Name) (group : List ℕ) → group_line_of_numbers names group ≡ group_line (decode names group)
line_by names group = ap (λ l. codes "$d" ++ l ++ codes "\n") (variables_by names group)

lines_by : (names : List Name) (groups : List (List ℕ)) → flat_map (group_line_of_numbers names) groups ≡ flat_map group_line (map (decode names) groups)
lines_by names [] = refl
lines_by names (g ∷ groups) =
    ap (λ l. l ++ flat_map (group_line_of_numbers names) groups) (line_by names g) ∙ ap (λ l. group_line (decode names g) ++ l) (lines_by names groups)

module _ (S F : Database) (at : ℕ) (s : Stmt) (same : F ≡ bares S) (stands : stmt_at S at ≡ Some s) where
  -- the statement without its proof is at the same position among the frames
  pub stands_bare : stmt_at F at ≡ Some (bare s)
  stands_bare = ap (λ T. stmt_at T at) same ∙ (stmt_at-bares S at ∙ ap (option_map bare) stands)

  pub has_assertion : is_assertion s ≡ true → HasAssertion F at (bare s)
  has_assertion is = (stands_bare, assertion-bare s ∙ is)

  -- the lines of its hypotheses and groups are those of the frame
  pub frame_is : (positions : List ℕ) (mid end old : List ℕ) → positions ≡ hypotheses (before F at) (bare s)
      → mid ≡ old ++ flat_map (line_at S) positions → end ≡ mid ++ flat_map group_line (mandatory_groups (before (bares S) at) s) → end ≡ old ++ frame_lines S at s
  frame_is positions mid end old are first last =
      let listed : positions ≡ hypotheses (before (bares S) at) s = are ∙ (hypotheses-bare (before F at) s ∙ ap (λ T. hypotheses (before T at) s) same) in
      last ∙ (ap (λ m. m ++ flat_map group_line (mandatory_groups (before (bares S) at) s)) first
      ∙ (append_assoc old (flat_map (line_at S) positions) (flat_map group_line (mandatory_groups (before (bares S) at) s))
      ∙ ap (λ ps. old ++ (flat_map (line_at S) ps ++ flat_map group_line (mandatory_groups (before (bares S) at) s))) listed))

  pub groups_are : (names : List Name) (groups : List (List ℕ)) (old new : List ℕ) → map (decode names) groups ≡ mandatory_groups (before F at) (bare s)
      → new ≡ old ++ flat_map (group_line_of_numbers names) groups → new ≡ old ++ flat_map group_line (mandatory_groups (before (bares S) at) s)
  groups_are names groups old new are e =
      let grouped : mandatory_groups (before F at) (bare s) ≡ mandatory_groups (before (bares S) at) s = groups-bare (before F at) s ∙ ap (λ T. mandatory_groups (before T at) s) same in
      e ∙ (ap (λ l. old ++ l) (lines_by names groups) ∙ ap (λ gs. old ++ flat_map group_line gs) (are ∙ grouped))
