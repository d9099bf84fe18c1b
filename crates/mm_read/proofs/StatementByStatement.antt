-- A list of statements and the tokens after it: these fit after the statements exactly if they fit
-- alone, and a fault of them is a fault of the whole.
use Rattle.mm_read.proofs.Words.{◌≡◌, ℕ, ◌+◌, ◌-◌, ◌<◌, ◌⊎◌, suc, zero, true, List, [], ◌∷◌, ◌++◌, length, take, list_all, sym, ◌∙◌, ap, arith, refl, subst, inl, inr, append_assoc, length-append, take-append-add, and_parts, Name, Stmt, Open, Close, Const, Var, Disj, Float, Ess, Axiom, Prove, Database, is_shaped, stmt_tokens, tokens_of, IsStatementsPrefix, IsShapeFault}
use Rattle.mm_read.proofs.OneStatementList.{same_front}

pub tokens_of-append : (S T : Database) → tokens_of (S ++ T) ≡ tokens_of S ++ tokens_of T
tokens_of-append [] T = refl
tokens_of-append (s ∷ S) T = ap (λ r. stmt_tokens s ++ r) (tokens_of-append S T) ∙ sym (append_assoc (stmt_tokens s) (tokens_of S) (tokens_of T))

pub shaped-append : (S T : Database) → list_all is_shaped S ≡ true → list_all is_shaped T ≡ true → list_all is_shaped (S ++ T) ≡ true
shaped-append [] T hS hT = hT
shaped-append (s ∷ S) T hS hT =
    let parts : (is_shaped s ≡ true) × (list_all is_shaped S ≡ true) = and_parts (is_shaped s) (list_all is_shaped S) hS in
    rw (parts.0) (shaped-append S T parts.1 hT)

-- a statement has a token
no_tokens : (s : Stmt) (rest : List Name) → stmt_tokens s ++ rest ≡ [] → ⊥
no_tokens Open rest e = absurd cc
no_tokens Close rest e = absurd cc
no_tokens (Const ws) rest e = absurd cc
no_tokens (Var ws) rest e = absurd cc
no_tokens (Disj ws) rest e = absurd cc
no_tokens (Float label constant variable) rest e = absurd cc
no_tokens (Ess label expr) rest e = absurd cc
no_tokens (Axiom label expr) rest e = absurd cc
no_tokens (Prove label expr proof) rest e = absurd cc

-- if the tokens of statements begin with the tokens of others, the tokens left are those of some
-- statements
after_prefix : (S T : Database) (rest : List Name) → list_all is_shaped S ≡ true → list_all is_shaped T ≡ true → tokens_of T ≡ tokens_of S ++ rest
    → (U : Database) × (list_all is_shaped U ≡ true) × (tokens_of U ≡ rest)
after_prefix [] T rest hS hT e = (T, hT, e)
after_prefix (s ∷ S) [] rest hS hT e = absurd (no_tokens s (tokens_of S ++ rest) (sym (append_assoc (stmt_tokens s) (tokens_of S) rest) ∙ sym e))
after_prefix (s ∷ S) (t ∷ T) rest hS hT e =
    let of_s : (is_shaped s ≡ true) × (list_all is_shaped S ≡ true) = and_parts (is_shaped s) (list_all is_shaped S) hS in
    let of_t : (is_shaped t ≡ true) × (list_all is_shaped T ≡ true) = and_parts (is_shaped t) (list_all is_shaped T) hT in
    let same : (t ≡ s) × (tokens_of T ≡ tokens_of S ++ rest) = same_front t s (tokens_of T) (tokens_of S ++ rest) of_t.0 of_s.0 (e ∙ append_assoc (stmt_tokens s) (tokens_of S) rest) in
    after_prefix S T rest of_s.1 of_t.1 same.1

-- the tokens of a fault are counted from 1
fault_some : (tokens : List Name) (token : ℕ) → IsShapeFault tokens token → 0 < token
fault_some tokens zero fault = absurd (by fault.here)
  where
    by : (IsStatementsPrefix [] → ⊥) ⊎ (0 ≡ length tokens + 1) → ⊥
    by (inl stop) = stop (record { statements = []; rest = []; shaped = refl; whole = refl })
    by (inr end) = omega (arith, end)
fault_some tokens (suc token) fault = omega arith

module _ (S : Database) (shaped : list_all is_shaped S ≡ true) (rest : List Name) where
  -- if tokens begin a list of statements, they do so also after other statements
  forth : (ts : List Name) → IsStatementsPrefix ts → IsStatementsPrefix (tokens_of S ++ ts)
  forth ts on = record {
    statements = S ++ on.statements;
    rest = on.rest;
    shaped = shaped-append S on.statements shaped on.shaped;
    whole = tokens_of-append S on.statements ∙ (ap (λ r. tokens_of S ++ r) on.whole ∙ sym (append_assoc (tokens_of S) ts on.rest));
  }

  -- if tokens begin a list of statements after others, they do so also without them
  back : (ts : List Name) → IsStatementsPrefix (tokens_of S ++ ts) → IsStatementsPrefix ts
  back ts on =
      let found : (U : Database) × (list_all is_shaped U ≡ true) × (tokens_of U ≡ ts ++ on.rest) = after_prefix S on.statements (ts ++ on.rest) shaped on.shaped (on.whole ∙ append_assoc (tokens_of S) ts on.rest) in
      record { statements = found.0; rest = on.rest; shaped = found.1; whole = found.2 }

  -- a fault of the tokens after statements is a fault of the whole
  pub fault_after : (token : ℕ) → IsShapeFault rest token → IsShapeFault (tokens_of S ++ rest) (length (tokens_of S) + token)
  fault_after token fault = record {
    none = λ T hT e. let found : (U : Database) × (list_all is_shaped U ≡ true) × (tokens_of U ≡ rest) = after_prefix S T rest shaped hT e in fault.none found.0 found.1 found.2;
    before = subst IsStatementsPrefix (sym earlier) (forth (take (token - 1) rest) fault.before);
    here = by fault.here;
  }
    where
      earlier : take (length (tokens_of S) + token - 1) (tokens_of S ++ rest) ≡ tokens_of S ++ take (token - 1) rest
      earlier = ap (λ n. take n (tokens_of S ++ rest)) (omega (arith, fault_some rest token fault)) ∙ take-append-add (tokens_of S) rest (token - 1)

      by : (IsStatementsPrefix (take token rest) → ⊥) ⊎ (token ≡ length rest + 1) → (IsStatementsPrefix (take (length (tokens_of S) + token) (tokens_of S ++ rest)) → ⊥) ⊎ (length (tokens_of S) + token ≡ length (tokens_of S ++ rest) + 1)
      by (inl stop) = inl (λ on. stop (back (take token rest) (subst IsStatementsPrefix (take-append-add (tokens_of S) rest token) on)))
      by (inr end) = inr (omega (arith, end, length-append (tokens_of S) rest))
