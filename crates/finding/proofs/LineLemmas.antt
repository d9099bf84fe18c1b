-- The lines of the statements that are found, one statement after another.
use Rattle.finding.proofs.LineWords.{◌≡◌, ℕ, zero, suc, ◌+◌, ◌<◌, ◌≤◌, Bool, true, false, List, [], ◌∷◌, ◌++◌, length, take, Option, Some, None, slice_get, get_or, refl, ap, sym, ◌∙◌, subst, arith, append_assoc, inl, inr, ◌↔◌, ◌⊎◌, IsTrue, IfOk, Result, both_ways, slice_get-get_or, IfOk-weaker, append-nil, take_all, Stmt, Database, stmt_at, line_if, IsLineIf, AreFoundLines}

-- the line of a statement, by the answer of the test
judged : (matches : Type 0) (is : Bool) (line : List ℕ) → IsTrue is ↔ matches → IsLineIf matches line (line_if is line)
judged matches true line h = inl (h.0 refl, refl)
judged matches false line h = inr (λ c. both_ways false refl (h.1 c), refl)

-- the lines with that of one more statement
pub lines_more : (matches : ℕ → Stmt → Type 0) (line_at : ℕ → Stmt → List ℕ) (from at : ℕ) (S : Database) (i : ℕ) (s : Stmt) (is : Bool) (old new : List ℕ) → AreFoundLines matches line_at from (take i S) old
    → slice_get S i ≡ Some s → from + i ≡ at → IsTrue is ↔ matches at s → new ≡ old ++ line_if is (line_at at s) → AreFoundLines matches line_at from (take (suc i) S) new
lines_more matches line_at from at [] i s is old new before e place h added = absurd (none_is e)
  where
    none_is : ◌≡◌ {A = Option Stmt} None (Some s) → ⊥
    none_is bad = cc
lines_more matches line_at from at (r ∷ S) zero s is old new before e place h added =
    let same : s ≡ r = cc in
    let here : at ≡ from = omega (arith, place) in
    let line : line_at at s ≡ line_at from r = ap (λ n. line_at n s) here ∙ ap (line_at from) same in
    let first : IsLineIf (matches from r) (line_at from r) (line_if is (line_at from r)) = judged (matches from r) is (line_at from r) (subst (λ n. IsTrue is ↔ matches n r) here (subst (λ t. IsTrue is ↔ matches at t) same h)) in
    (line_if is (line_at from r), [], added ∙ (ap (λ l. l ++ line_if is (line_at at s)) before ∙ (ap (line_if is) line ∙ sym (append-nil (line_if is (line_at from r))))), first, refl)
lines_more matches line_at from at (r ∷ S) (suc i) s is old new before e place h added =
    let line : List ℕ = before.0 in
    let rest : List ℕ = before.1 in
    let more = lines_more matches line_at (from + 1) at S i s is rest (rest ++ line_if is (line_at at s)) before.4 e (omega (arith, place)) h refl in
    (line, rest ++ line_if is (line_at at s), added ∙ (ap (λ l. l ++ line_if is (line_at at s)) before.2 ∙ append_assoc line rest (line_if is (line_at at s))), before.3, more)

-- the same for the statement at an index within the list
pub lines_on : (matches : ℕ → Stmt → Type 0) (line_at : ℕ → Stmt → List ℕ) (S : Database) (i : ℕ) (s : Stmt) (is : Bool) (old new : List ℕ) → AreFoundLines matches line_at 0 (take i S) old
    → i < length S → s ≡ get_or S i s → IsTrue is ↔ matches i s → new ≡ old ++ line_if is (line_at i s) → AreFoundLines matches line_at 0 (take (i + 1) S) new
lines_on matches line_at S i s is old new before within same h added =
    let next : suc i ≡ i + 1 = omega arith in
    let here : slice_get S i ≡ Some s = slice_get-get_or S i s within ∙ ap Some (sym same) in
    subst (λ n. AreFoundLines matches line_at 0 (take n S) new) next (lines_more matches line_at 0 i S i s is old new before here (omega arith) h added)

-- the lines of all statements
pub lines_all : (matches : ℕ → Stmt → Type 0) (line_at : ℕ → Stmt → List ℕ) (S : Database) (i : ℕ) (lines : List ℕ) → length S ≤ i → AreFoundLines matches line_at 0 (take i S) lines → AreFoundLines matches line_at 0 S lines
lines_all matches line_at S i lines past is = subst (λ T. AreFoundLines matches line_at 0 T lines) (take_all i S past) is

-- a statement that is found is an assertion
pub found-assertion : (a is : Bool) (B : Type 0) → IsTrue is ↔ (IsTrue a × B) → IsTrue is → IsTrue a
found-assertion a is B h found = (h.0 found).0

-- the statement at an index has the position that is one greater
pub stands_at : (S : Database) (i : ℕ) (s : Stmt) → i < length S → s ≡ get_or S i s → stmt_at S (i + 1) ≡ Some s
stands_at S i s within same =
    let next : i + 1 ≡ suc i = omega arith in
    ap (stmt_at S) next ∙ (slice_get-get_or S i s within ∙ ap Some (sym same))

-- an answer on an assertion is one on a statement that is an assertion
pub with_assertion : {E : Type 0} (B : Type 0) (a : Bool) → a ≡ true → (r : Result Bool E) → IfOk r (λ is. IsTrue is ↔ B) → IfOk r (λ is. IsTrue is ↔ (IsTrue a × B))
with_assertion B a e r h = IfOk-weaker r _ _ (λ is b. (λ yes. (e, b.0 yes), λ both. b.1 both.1)) h

-- if the first property fails, the second decides whether one of the two holds
pub either_later : (A B : Type 0) (own is : Bool) → own ≡ false → IsTrue own ↔ A → IsTrue is ↔ B → IsTrue is ↔ (A ⊎ B)
either_later A B own is fails first b = (λ yes. inr (b.0 yes), λ one. elim one [ inl a ↦ absurd (both_ways own fails (first.1 a)) | inr some ↦ b.1 some ])
