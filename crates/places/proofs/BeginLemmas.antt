-- The beginning of a statement, as the loop passes over its tokens.
use Rattle.places.proofs.Words.{◌≡◌, ℕ, ◌+◌, ◌-◌, ◌<◌, ◌≤◌, List, [], IsTrue, IsFalse, get_or, take, length, arith, ap, sym, ◌∙◌, below_more, length-take, get_or-map, get_or-take, Span, words, Name, word, ends_statement, BeginsStatement}

-- after a token that ends a statement the next statement begins
pub statement_here : (tokens : List Name) (i : ℕ) → IsTrue (ends_statement (get_or tokens i [])) → BeginsStatement tokens (i + 1) (i + 1)
statement_here tokens i is = record {
  before = omega arith;
  after = λ _. let e : i ≡ i + 1 - 1 = omega arith in
      ap (λ k. ends_statement (get_or tokens k [])) (sym e) ∙ is;
  none = λ k a b. absurd (omega (arith, a, b));
}

-- after any other token the statement is the one that began before
pub statement_on : (tokens : List Name) (i start : ℕ) → BeginsStatement tokens i start → IsFalse (ends_statement (get_or tokens i [])) → BeginsStatement tokens (i + 1) start
statement_on tokens i start b not = record {
  before = let h : start ≤ i = b.before in omega arith;
  after = b.after;
  none = λ k a l. below_more (λ k. start ≤ k → IsFalse (ends_statement (get_or tokens k []))) i (λ k l a. b.none k a l) (λ _. not) k l a;
}

-- the word of a token is the word of its span
pub word_is : (text : List ℕ) (spans : List Span) (n i : ℕ) (d : Span) → i < length (take n spans) → get_or (words text spans) i [] ≡ word text (get_or (take n spans) i d)
word_is text spans n i d h =
    let inside : i < n = omega (arith, h, length-take n spans) in
    let within : i < length spans = omega (arith, h, length-take n spans) in
    get_or-map (word text) spans i d [] within ∙ ap (word text) (sym (get_or-take n spans i d inside))
