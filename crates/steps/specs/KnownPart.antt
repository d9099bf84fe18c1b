-- The part of a normal proof that depends on no unknown result.
-- Metamath, 4.3: a token with `?` stands for steps that are not known yet; here it is one result.
-- The code goes over the tokens once, with the results on a stack.
use Rattle.std.specs.Prelude.{◌≡◌, ℕ, ◌+◌, ◌-◌, ◌<◌, true, false, List, [], ◌∷◌, ◌++◌, length, take, drop, Option, Some, None, is_none, IsTrue, IsFalse}
use Rattle.std.specs.List.{list_any}
use Rattle.mm_lex.specs.Alphabet.{has_byte}
use Rattle.proof_code.specs.Writes.{question_mark}
use Rattle.steps.specs.Words.{Name, Stmt, Database, before, hypotheses, Carries, IsHypothesis, IsCitable}
use Rattle.steps.specs.declared.known_part.KnownPart.{KnownPart}

-- a citation of the label takes so many results
pub data Takes (S : Database) (at : ℕ) (label : Name) (count : ℕ) : Type 0 where
  of_hypothesis : (i : ℕ) (s : Stmt) → Carries S i s label → IsHypothesis S at i s → count ≡ 0 → Takes S at label count
  of_assertion : (i : ℕ) (s : Stmt) → Carries S i s label → IsCitable S at i s → count ≡ length (hypotheses (before S i) s) → Takes S at label count

-- no statement has the label, or one that may not be cited
pub data IsUncitable (S : Database) (at : ℕ) (label : Name) : Type 0 where
  no_label : ((i : ℕ) (s : Stmt) → Carries S i s label → ⊥) → IsUncitable S at label
  not_there : (i : ℕ) (s : Stmt) → Carries S i s label → (IsHypothesis S at i s → ⊥) → (IsCitable S at i s → ⊥) → IsUncitable S at label

-- the tokens that depend on no unknown result, the results on the stack, of a known one its index
-- among those that these tokens leave, and how many they leave
pub record Known : Type 0 where
  pub tokens : List Name
  pub stack : List (Option ℕ)
  pub height : ℕ

abbrev pub known : List Name → List (Option ℕ) → ℕ → Known
known tokens stack height = record { tokens = tokens; stack = stack; height = height }

-- what the code keeps of it
abbrev pub known_of : KnownPart → Known
known_of part = known part.tokens part.stack.items part.height

-- the stack ends with so many results as a citation of the token takes, above `below`
pub record TakesLast (S : Database) (at : ℕ) (token : Name) (stack below taken : List (Option ℕ)) : Type 0 where
  pub known : IsFalse (has_byte question_mark token)
  pub takes : Takes S at token (length taken)
  pub whole : stack ≡ below ++ taken

-- one token more: an unknown result; a citation that takes one, whose result is unknown too; or a
-- citation of known ones
pub data KnowsToken (S : Database) (at : ℕ) (token : Name) (old new : Known) : Type 0 where
  unknown : IsTrue (has_byte question_mark token) → new ≡ known old.tokens (old.stack ++ None ∷ []) old.height → KnowsToken S at token old new
  spoiled : (below taken : List (Option ℕ)) → TakesLast S at token old.stack below taken → IsTrue (list_any is_none taken)
      → new ≡ known old.tokens (below ++ None ∷ []) old.height → KnowsToken S at token old new
  cited : (below taken : List (Option ℕ)) → TakesLast S at token old.stack below taken → IsFalse (list_any is_none taken)
      → new ≡ known (old.tokens ++ token ∷ []) (below ++ Some (old.height - length taken) ∷ []) (old.height - length taken + 1) → KnowsToken S at token old new

-- a citation that takes the last `count` results, as the code makes it
pub data CitesLast (token : Name) (count : ℕ) (old new : Known) : Type 0 where
  spoils : list_any is_none (drop (length old.stack - count) old.stack) ≡ true
      → new ≡ known old.tokens (take (length old.stack - count) old.stack ++ None ∷ []) old.height → CitesLast token count old new
  cites : list_any is_none (drop (length old.stack - count) old.stack) ≡ false
      → new ≡ known (old.tokens ++ token ∷ []) (take (length old.stack - count) old.stack ++ Some (old.height - count) ∷ []) (old.height - count + 1) → CitesLast token count old new

-- the tokens, one after the other
pub data KnowsTokens (S : Database) (at : ℕ) : List Name → Known → Type 0 where
  none : {tokens : List Name} {new : Known} → tokens ≡ [] → new ≡ known [] [] 0 → KnowsTokens S at tokens new
  more : {tokens : List Name} {new : Known} → (front : List Name) (token : Name) (old : Known) → KnowsTokens S at front old → KnowsToken S at token old new
      → tokens ≡ front ++ token ∷ [] → KnowsTokens S at tokens new

-- the token ends the known part: it cannot be cited, it finds too few results, or so many tokens
-- were cited as may be
pub data IsEnd (S : Database) (at limit : ℕ) (token : Name) (old : Known) : Type 0 where
  uncitable : IsUncitable S at token → IsEnd S at limit token old
  too_few : (count : ℕ) → Takes S at token count → length old.stack < count → IsEnd S at limit token old
  at_limit : length old.tokens ≡ limit → IsEnd S at limit token old

-- what is known after a front of the tokens, and why the next one, if there is one, ends it
pub record IsKnownPart (S : Database) (at : ℕ) (tokens : List Name) (limit : ℕ) (part : KnownPart) : Type 0 where
  pub front : List Name
  pub rest : List Name
  pub whole : tokens ≡ front ++ rest
  pub knows : KnowsTokens S at front (known_of part)
  pub ends : (token : Name) (after : List Name) → rest ≡ token ∷ after → IsEnd S at limit token (known_of part)
