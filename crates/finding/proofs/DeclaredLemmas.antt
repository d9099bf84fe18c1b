-- The symbols of a pattern that are not declared, from one part to the next.
use Rattle.finding.proofs.PatternPrelude.{◌≡◌, ℕ, suc, ◌+◌, ◌<◌, ◌≤◌, List, length, map, drop, get_or, Option, Some, None, ap, sym, ◌∙◌, arith, drop_of_length-le, drop-cons, Name, Part, part_view}
use Rattle.mm_read.specs.Statements.{Database}
use Rattle.finding.specs.DeclaredSymbols.{first_of, undeclared, undeclared_part}

-- the symbol of a part is not declared
pub undeclared_here : (S : Database) (parts : List Part) (i : ℕ) (d : Part) (x : Name) (whole : Option Name) → i < length parts
    → undeclared S (map part_view (drop i parts)) ≡ whole → Some x ≡ undeclared_part S (part_view (get_or parts i d)) → Some x ≡ whole
undeclared_here S parts i d x whole within inv here =
    ap (λ o. first_of o (undeclared S (map part_view (drop (suc i) parts)))) here
    ∙ (ap (λ r. undeclared S (map part_view r)) (sym (drop-cons parts i d within)) ∙ inv)

-- one more part has no symbol, or a declared one
pub undeclared_on : (S : Database) (parts : List Part) (i : ℕ) (d : Part) (whole : Option Name) → i < length parts
    → undeclared S (map part_view (drop i parts)) ≡ whole → None ≡ undeclared_part S (part_view (get_or parts i d)) → undeclared S (map part_view (drop (i + 1) parts)) ≡ whole
undeclared_on S parts i d whole within inv here =
    let more : i + 1 ≡ suc i = omega arith in
    ap (λ n. undeclared S (map part_view (drop n parts))) more
    ∙ (ap (λ o. first_of o (undeclared S (map part_view (drop (suc i) parts)))) here
    ∙ (ap (λ r. undeclared S (map part_view r)) (sym (drop-cons parts i d within)) ∙ inv))

-- no part is left
pub undeclared_none : (S : Database) (parts : List Part) (i : ℕ) (whole : Option Name) → length parts ≤ i → undeclared S (map part_view (drop i parts)) ≡ whole → None ≡ whole
undeclared_none S parts i whole past inv = ap (λ r. undeclared S (map part_view r)) (sym (drop_of_length-le parts {i = i} past)) ∙ inv
