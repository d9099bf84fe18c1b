-- Statement by statement, from place to place: the tokens between two places read as a statement,
-- and those before as the statements so far.
use Rattle.mm_read.proofs.Words.{◌≡◌, ℕ, ◌+◌, ◌<◌, true, List, [], ◌∷◌, ◌++◌, length, codes, Result, Ok, Err, IfOk, IfErr, refl, list_all, sym, ◌∙◌, ap, arith, length-append, append-nil, and_from, Name, is_symbol, is_label, HasOnlyAllowedBytes, AreTokensBetween, AreTokensAfter, IsTokenCountAfter, between_on, between_as, after_on, after_as, after_unique, Stmt, Float, Ess, Axiom, Prove, Database, are_symbols, is_shaped, stmt_tokens, tokens_of, Reads, IsNext, IsOneMore, ReadsUpTo}
use Rattle.mm_read.proofs.StatementsLemmas.{append_middle}
use Rattle.mm_read.proofs.StatementByStatement.{tokens_of-append, shaped-append}

module _ {text : List ℕ} where
  -- tokens and then a word, which is the keyword
  pub after_word : {from at end : ℕ} {before : List Name} {word key : Name} → AreTokensBetween text from at before → word ≡ key → AreTokensBetween text at end (word ∷ []) → AreTokensBetween text from end (before ++ key ∷ [])
  after_word {before = before} has e next = between_as (ap (λ w. before ++ w ∷ []) e) (between_on has next)

  -- tokens and then a list that are together the tokens of a statement
  pub listed_next : {from at next : ℕ} {before ws : List Name} (s : Stmt) → from < at → AreTokensBetween text from at before → AreTokensBetween text at next ws → stmt_tokens s ≡ before ++ ws → is_shaped s ≡ true → IsNext text from s next
  listed_next s later has list e shaped = record {
    shaped = shaped;
    later = omega (arith, later, list.later);
    between = between_as (sym e) (between_on has list);
  }

  -- a keyword and then a list that are together the tokens of a statement
  pub keyed_next : {from at next : ℕ} {word : Name} {list : List Name} (key : Name) → word ≡ key → from < at → AreTokensBetween text from at (word ∷ []) → AreTokensBetween text at next list
      → (s : Stmt) → stmt_tokens s ≡ key ∷ list → is_shaped s ≡ true → IsNext text from s next
  keyed_next key e later has list s is shaped = listed_next s later (between_as (ap (λ w. w ∷ []) e) has) list is shaped

  module _ {from at : ℕ} (label old : Name) (same : label ≡ old) (is : is_label old ≡ true) (later : from < at) where
    -- the tokens of a `$e`
    pub essential_next : {next : ℕ} {expr : List Name} → AreTokensBetween text from at (old ∷ codes "$e" ∷ []) → AreTokensBetween text at next (expr ++ codes "$." ∷ []) → are_symbols expr ≡ true
        → IsNext text from (Ess label expr) next
    essential_next {expr = expr} has list symbols =
        listed_next (Ess label expr) later has list (ap (λ l. l ∷ codes "$e" ∷ (expr ++ codes "$." ∷ [])) same) (and_from _ _ (ap is_label same ∙ is) symbols)

    -- the tokens of a `$a`
    pub axiom_next : {next : ℕ} {expr : List Name} → AreTokensBetween text from at (old ∷ codes "$a" ∷ []) → AreTokensBetween text at next (expr ++ codes "$." ∷ []) → are_symbols expr ≡ true
        → IsNext text from (Axiom label expr) next
    axiom_next {expr = expr} has list symbols =
        listed_next (Axiom label expr) later has list (ap (λ l. l ∷ codes "$a" ∷ (expr ++ codes "$." ∷ [])) same) (and_from _ _ (ap is_label same ∙ is) symbols)

    -- the tokens of a `$f`
    pub floating_next : {after_constant after_variable next : ℕ} {constant variable : Name} → AreTokensBetween text from at (old ∷ codes "$f" ∷ []) → AreTokensBetween text at after_constant (constant ∷ [])
        → AreTokensBetween text after_constant after_variable (variable ∷ []) → AreTokensBetween text after_variable next (codes "$." ∷ []) → is_symbol constant ≡ true → is_symbol variable ≡ true
        → IsNext text from (Float label constant variable) next
    floating_next {constant = constant} {variable = variable} has first second last c v =
        listed_next (Float label constant variable) later has (between_on first (between_on second last))
        (ap (λ l. l ∷ codes "$f" ∷ constant ∷ variable ∷ codes "$." ∷ []) same)
        (and_from _ _ (and_from _ _ (ap is_label same ∙ is) c) v)

    -- the tokens of a `$p`
    pub provable_next : {after next : ℕ} {expr proof : List Name} → AreTokensBetween text from at (old ∷ codes "$p" ∷ []) → AreTokensBetween text at after (expr ++ codes "$=" ∷ [])
        → AreTokensBetween text after next (proof ++ codes "$." ∷ []) → are_symbols expr ≡ true → list_all is_symbol proof ≡ true → IsNext text from (Prove label expr proof) next
    provable_next {expr = expr} {proof = proof} has first list symbols steps =
        listed_next (Prove label expr proof) later has (between_on first list)
        (ap (λ l. l ∷ codes "$p" ∷ (expr ++ codes "$=" ∷ (proof ++ codes "$." ∷ []))) same
        ∙ ap (λ r. old ∷ codes "$p" ∷ r) (sym (append_middle expr (codes "$=") [] (proof ++ codes "$." ∷ []))))
        (and_from _ _ (and_from _ _ (ap is_label same ∙ is) symbols) steps)

  -- ---- the statements so far

  -- with one more statement, the tokens up to the later place read as the statements
  pub before_more : {at next : ℕ} {old new : Database} → ReadsUpTo text at old → IsOneMore text at next old new → ReadsUpTo text next new
  before_more {old = old} are more = record {
    shaped = ap (list_all is_shaped) more.whole ∙ shaped-append old (more.statement ∷ []) are.shaped (and_from _ _ more.next_is.shaped refl);
    between = between_as (ap (λ r. tokens_of old ++ r) (sym (append-nil (stmt_tokens more.statement))) ∙ (sym (tokens_of-append old (more.statement ∷ [])) ∙ ap tokens_of (sym more.whole)))
        (between_on are.between more.next_is.between);
  }

  -- if no token is left, the text reads as the statements
  pub reads_all : (at : ℕ) (S : Database) → HasOnlyAllowedBytes text → ReadsUpTo text at S → AreTokensAfter text at [] → Reads text S
  reads_all at S allowed are none =
      let all : AreTokensAfter text 0 (tokens_of S) = after_as 0 (append-nil (tokens_of S)) (after_on are.between none) in
      record { shaped = are.shaped; tokens = (all.0, (allowed, all.1), all.2) }

-- the number of tokens of the text is that of the statements' tokens plus that of the tokens left
pub count_before : (text : List ℕ) (at : ℕ) (S : Database) → ReadsUpTo text at S → (n m : ℕ) → IsTokenCountAfter text at n → IsTokenCountAfter text 0 m → m ≡ length (tokens_of S) + n
count_before text at S are n m rest all =
    let whole : AreTokensAfter text 0 (tokens_of S ++ rest.0) = after_on are.between rest.1 in
    let same : tokens_of S ++ rest.0 ≡ all.0 = after_unique 0 whole all.1 in
    omega (arith, ap length same, length-append (tokens_of S) rest.0, rest.2, all.2)

-- if one property of a value implies another, it does so for the value of a result
pub on_ok : {A E : Type 0} {P Q : A → Type 0} (r : Result A E) → ((x : A) → P x → Q x) → IfOk r P → IfOk r Q
on_ok (Ok x) f h = f x h
on_ok (Err x) f h = tt

-- .. and for the error of a result
pub on_err : {A E : Type 0} {P Q : E → Type 0} (r : Result A E) → ((x : E) → P x → Q x) → IfErr r P → IfErr r Q
on_err (Ok x) f h = tt
on_err (Err x) f h = f x h
