-- Why no statement follows a place, from the tokens of the statement so far and the fault of its
-- next part.
use Rattle.mm_read.proofs.Words.{◌≡◌, ℕ, Bool, ◌+◌, ◌≤◌, true, false, List, [], ◌∷◌, ◌++◌, length, Some, None, codes, list_all, option_and_then, sym, ◌∙◌, ap, arith, refl, subst, append_assoc, length-append, LexFault, Name, name_eq, is_symbol, is_label, AreTokensBetween, AreTokensAfter, IsCommentFaultAfter, after_rest, after_unique, stops_after, between_on, ReadFault, Text, Shape, Memory, IsShapeFault, read_fault, BeginsBrokenList, HasBrokenList, IsListFault, StartsOtherwise, IsTokenFault, IsFaultAfter}
use Rattle.mm_lex.specs.declared.fault.LexFault.TheVariants as lex
use Rattle.mm_read.proofs.ReaderStates.{ReaderState, between, labelled, listing, floating, proving, step, go}
use Rattle.mm_read.proofs.ReaderRuns.{go-label, go-proving}
use Rattle.mm_read.proofs.ShapeFaults.{stops_at}
use Rattle.mm_read.proofs.PartFaults.{Stuck, stuck, list_stops, expr_stops, step-floating_symbol, step-floating_end, go-floating_one, go-floating_two}

-- after a label and its keyword the machine is in the state of that keyword
goes_on : (label : Name) → is_label label ≡ true → (k : Name) (p : ReaderState) (ws : List Name) → step labelled k ≡ Some p → go between (label ∷ k ∷ ws) ≡ go p ws
goes_on label is_one k p ws e = go-label label (k ∷ ws) is_one ∙ ap (option_and_then (λ q. go q ws)) e

module _ (text : List ℕ) where
  -- ---- from a place back to an earlier one

  -- a fault after a place, with the tokens up to it, is a fault after the earlier place
  pub fault_back : {from at : ℕ} {ws : List Name} (before : List Name) → AreTokensBetween text from at ws → (fault : ReadFault) → IsFaultAfter text (before ++ ws) at fault
      → IsFaultAfter text before from fault
  fault_back before has (Text fault) is = stops_after has fault is
  fault_back {from} {at} {ws} before has (Shape token) is = λ tokens are.
      let r : (us : List Name) × AreTokensAfter text at us × (tokens ≡ ws ++ us) = after_rest has are in
      subst (λ ts. IsShapeFault ts token) (append_assoc before ws r.0 ∙ ap (λ ts. before ++ ts) (sym r.2)) (is r.0 r.1)
  fault_back before has Memory is = tt

  -- ---- at one token

  module _ (at : ℕ) (done : List Name) (p : ReaderState) (goes : go between done ≡ Some p) (inside : p ≡ between → ⊥) where
    -- if no token is left, the next one is missing
    pub none_after : AreTokensAfter text at [] → IsFaultAfter text done at (Shape (length done + 1))
    none_after none = λ tokens are. stuck (done ++ tokens) done tokens p refl goes inside (subst (Stuck p) (after_unique at none are) tt)

    -- if the machine stops at the next token, this token is misplaced
    pub other_after : {end : ℕ} (t : Name) → AreTokensBetween text at end (t ∷ []) → step p t ≡ None → IsFaultAfter text done at (Shape (length done + 1))
    other_after {end} t has stop = λ tokens are.
        let r : (us : List Name) × AreTokensAfter text end us × (tokens ≡ t ∷ us) = after_rest has are in
        stuck (done ++ tokens) done tokens p refl goes inside (subst (Stuck p) (sym r.2) stop)

    -- if the machine stops at each token of another kind, the fault of the next token is the fault
    -- of the statement
    pub token_after : (number : ℕ) (fits : Name → Bool) (fault : ReadFault) → number ≡ length done + 1 → ((t : Name) → fits t ≡ false → step p t ≡ None)
        → IsTokenFault text at number fits fault → IsFaultAfter text done at fault
    token_after number fits (Text fault) long stop is = is
    token_after number fits (Shape token) long stop is = λ tokens are.
        subst (IsShapeFault (done ++ tokens)) (sym long ∙ sym is.0) (stuck (done ++ tokens) done tokens p refl goes inside (by tokens (is.1 tokens are)))
      where
        by : (tokens : List Name) → StartsOtherwise fits tokens → Stuck p tokens
        by [] starts = tt
        by (t ∷ rest) starts = stop t starts
    token_after number fits Memory long stop is = tt

  -- ---- in a list

  module _ (at : ℕ) (done : List Name) (number least : ℕ) (long : number ≡ length done + 1) where
    -- the fault of a list up to `$.` is the fault of the statement
    pub list_after : go between done ≡ Some (listing least) → (fault : ReadFault) → IsListFault text at number least (codes "$.") fault → IsFaultAfter text done at fault
    list_after goes (Text fault) is = is
    list_after goes (Shape token) is = λ tokens are. list_stops done tokens number least long token goes (is.stops tokens are)
    list_after goes Memory is = tt

    -- .. and so is the fault of an expression up to `$=`
    pub expr_after : go between done ≡ Some (proving least) → (fault : ReadFault) → IsListFault text at number least (codes "$=") fault → IsFaultAfter text done at fault
    expr_after goes (Text fault) is = is
    expr_after goes (Shape token) is = λ tokens are. expr_stops done tokens number least long token goes (is.stops tokens are)
    expr_after goes Memory is = tt

  -- ---- after a label

  module _ (at : ℕ) (label : Name) (is_one : is_label label ≡ true) where
    -- if nothing follows a label, the second token is missing
    pub label_alone : AreTokensAfter text at [] → IsFaultAfter text (label ∷ []) at (Shape 2)
    label_alone none = none_after at (label ∷ []) labelled (go-label label [] is_one) (λ bad. cc) none

    -- a token after a label is misplaced if it is no keyword of a labelled statement
    pub label_before : {end : ℕ} (t : Name) → AreTokensBetween text at end (t ∷ []) → step labelled t ≡ None → IsFaultAfter text (label ∷ []) at (Shape 2)
    label_before t has stop = other_after at (label ∷ []) labelled (go-label label [] is_one) (λ bad. cc) t has stop

    -- `$e` and `$a`: the fault of the expression
    pub labelled_list : (k : Name) → step labelled k ≡ Some (listing 1) → (fault : ReadFault) → IsListFault text at 3 1 (codes "$.") fault → IsFaultAfter text (label ∷ k ∷ []) at fault
    labelled_list k e fault is = list_after at (label ∷ k ∷ []) 3 1 refl (goes_on label is_one k (listing 1) [] e) fault is

    -- `$f`: the fault of the constant
    pub constant_fault : (fault : ReadFault) → IsTokenFault text at 3 is_symbol fault → IsFaultAfter text (label ∷ codes "$f" ∷ []) at fault
    constant_fault fault is =
        token_after at (label ∷ codes "$f" ∷ []) (floating 2) (goes_on label is_one (codes "$f") (floating 2) [] refl) (λ bad. cc) 3 is_symbol fault refl (λ t e. step-floating_symbol 1 t e) is

    -- `$f`: the fault of the variable, after the constant was read
    pub variable_fault : {after : ℕ} (c : Name) → is_symbol c ≡ true → AreTokensBetween text at after (c ∷ []) → (fault : ReadFault) → IsTokenFault text after 4 is_symbol fault
        → IsFaultAfter text (label ∷ codes "$f" ∷ []) at fault
    variable_fault {after} c symbol has fault is =
        fault_back (label ∷ codes "$f" ∷ []) has fault
        (token_after after (label ∷ codes "$f" ∷ c ∷ []) (floating 1) (goes_on label is_one (codes "$f") (floating 2) (c ∷ []) refl ∙ go-floating_one c symbol) (λ bad. cc) 4 is_symbol fault refl
        (λ t e. step-floating_symbol 0 t e) is)

    -- `$f`: the fault of the `$.`, after both symbols were read
    pub end_fault : {after_constant after_variable : ℕ} (c v : Name) → is_symbol c ≡ true → is_symbol v ≡ true → AreTokensBetween text at after_constant (c ∷ []) → AreTokensBetween text after_constant after_variable (v ∷ [])
        → (fault : ReadFault) → IsTokenFault text after_variable 5 (λ w. name_eq w (codes "$.")) fault → IsFaultAfter text (label ∷ codes "$f" ∷ []) at fault
    end_fault {after_constant} {after_variable} c v symbol other has next fault is =
        fault_back (label ∷ codes "$f" ∷ []) (between_on has next) fault
        (token_after after_variable (label ∷ codes "$f" ∷ c ∷ v ∷ []) (floating 0) (goes_on label is_one (codes "$f") (floating 2) (c ∷ v ∷ []) refl ∙ go-floating_two c v symbol other) (λ bad. cc) 5
        (λ w. name_eq w (codes "$.")) fault refl (λ t e. step-floating_end t e) is)

    -- `$p`: the fault of the expression
    pub expr_fault : (fault : ReadFault) → IsListFault text at 3 1 (codes "$=") fault → IsFaultAfter text (label ∷ codes "$p" ∷ []) at fault
    expr_fault fault is = expr_after at (label ∷ codes "$p" ∷ []) 3 1 refl (goes_on label is_one (codes "$p") (proving 1) [] refl) fault is

    module _ {after : ℕ} (expr : List Name) (symbols : list_all is_symbol expr ≡ true) (many : 1 ≤ length expr) (has : AreTokensBetween text at after (expr ++ codes "$=" ∷ [])) where
      -- `$p`: the fault of the proof, after the expression was read
      pub proof_fault : (token : ℕ) → HasBrokenList text after 1 0 (codes "$.") token → IsFaultAfter text (label ∷ codes "$p" ∷ []) at (Shape (3 + length expr + token))
      proof_fault token is =
          let done = label ∷ codes "$p" ∷ (expr ++ codes "$=" ∷ []) in
          let goes : go between done ≡ Some (listing 0) = goes_on label is_one (codes "$p") (proving 1) (expr ++ codes "$=" ∷ []) refl ∙ go-proving 1 expr (codes "$=" ∷ []) symbols many in
          fault_back (label ∷ codes "$p" ∷ []) has (Shape (3 + length expr + token))
          (λ tokens are.
          let s = is.stops tokens are in
          let moved : BeginsBrokenList tokens (length done + 1) 0 (codes "$.") (3 + length expr + token) = record {
            ws = s.ws;
            rest = s.rest;
            symbols = s.symbols;
            whole = s.whole;
            place = omega (arith, s.place, length-append expr (codes "$=" ∷ []));
            stop = s.stop;
          } in
          list_stops done tokens (length done + 1) 0 refl (3 + length expr + token) goes moved)

-- ---- at the first token

-- a first token is misplaced if no statement begins with it
pub first_misfit : (text : List ℕ) (at : ℕ) (t : Name) → step between t ≡ None → IsFaultAfter text (t ∷ []) at (Shape 1)
first_misfit text at t stop = λ tokens are. stops_at [] tokens t between refl stop

-- `$c`, `$v` and `$d`: the fault of the list after the keyword
pub keyed_list : (text : List ℕ) (at : ℕ) (t k : Name) (least : ℕ) → t ≡ k → step between k ≡ Some (listing least) → (fault : ReadFault)
    → IsListFault text at 2 least (codes "$.") fault → IsFaultAfter text (t ∷ []) at fault
keyed_list text at t k least same e fault is =
    list_after text at (t ∷ []) 2 least refl (ap (λ w. option_and_then (λ q. go q []) (step between w)) same ∙ ap (option_and_then (λ q. go q [])) e) fault is
