use Rattle.verify.proofs.Words.{◌≡◌, ℕ, Bool, ◌-◌, ◌≤◌, Option, is_some, List, Result, Ok, Err, IfOk, length, map, take, drop, AllocError, arith, ap, subst, ◌∙◌, length-map, SymbolRange, symbols_in, images_at, AreWithin, Hypothesis, Reads, top, ReadsAll}
use Rattle.verify.proofs.ResultPlaceLemmas.{last-within, last-count, seen_eq, kept-read}
use Rattle.verify.proofs.ReadImageLemmas.{reads-seen}
use Rattle.verify.proofs.results.Results.read_images.Goals as goal

last-of : (xs : List ℕ) (s e : List SymbolRange) (stack : List (List ℕ)) (k m n : ℕ) → e ≡ s → map (symbols_in xs) s ≡ stack → m ≤ length stack → k ≡ length s - m → m ≡ n → length (take (length e - k) (drop k e)) ≡ n
last-of xs s e stack k m n same seen few from count = rw (same) (last-count k m s (omega (arith, ap length seen, length-map s (symbols_in xs), few)) from) ∙ count

reads-result : (r : Result (Option Bool) AllocError) (xs ds typecodes : List ℕ) (hs : List Hypothesis) (places : List SymbolRange) (images : List (ℕ × SymbolRange)) (rs : List (List ℕ)) → ds ≡ xs → length places ≡ length hs → AreWithin (length xs) places
    → map (symbols_in xs) places ≡ rs → IfOk r (λ o. ReadsAll (is_some o) (length hs) ds typecodes hs places images) → IfOk r (λ o. Reads (is_some o) typecodes hs rs (images_at xs images))
reads-result (Err e) xs ds typecodes hs places images rs d count within seen h = tt
reads-result (Ok o) xs ds typecodes hs places images rs d count within seen h =
    subst (λ v. Reads (is_some o) typecodes hs v (images_at xs images)) seen (reads-seen (is_some o) xs typecodes hs places images count within (subst (λ v. ReadsAll (is_some o) (length hs) v typecodes hs places images) d h))

pub invariant_of-self : goal.invariant_of-self
invariant_of-self c = kept-read c.self.inside.symbols c.self.inside.images _ c.self.inside.stack.items c.self.inside.saved.items c.self.inside.weight c.self.invariant
    (c.read_off.ensures.inside (length c.self.inside.symbols) (rw (c.deref.ensures.value) (last-within _ _ _ c.self.invariant.stack_within)))

pub read_off-requires-clause-same : goal.read_off-requires-clause-same
read_off-requires-clause-same c = last-of c.self.inside.symbols _ _ _ _ _ _ c.deref.ensures.value (ap (λ v. v.results.stack) c.self.view_is) (omega (arith, c.requires.count, c.len-2.ensures)) (omega (arith, c.len.ensures)) c.len-2.ensures

pub returns-clause-read : goal.returns-clause-read
returns-clause-read c =
    reads-result c.read_off.result c.self.inside.symbols c.as_slice-symbols.result.now c.args.typecodes.now c.args.hypotheses.now _ _ (top (length c.args.hypotheses.now) c.args.self.now.results.stack) c.as_slice-symbols.ensures.symbols
    (last-of c.self.inside.symbols _ _ _ _ _ _ c.deref.ensures.value (ap (λ v. v.results.stack) c.self.view_is) (omega (arith, c.requires.count, c.len-2.ensures)) (omega (arith, c.len.ensures)) c.len-2.ensures)
    (rw (c.deref.ensures.value) (last-within _ _ _ c.self.invariant.stack_within))
    (seen_eq c.self.inside.symbols c.self.inside.stack.items c.deref.result.now c.args.self.now.results.stack (c.len.result - c.len-2.result) c.len-2.result c.deref.ensures.value (ap (λ v. v.results.stack) c.self.view_is) (omega (arith, c.len.ensures))
    ∙ ap (λ k. top k c.args.self.now.results.stack) c.len-2.ensures) c.read_off.ensures.ok

pub read_off-requires-clause-within : goal.read_off-requires-clause-within
read_off-requires-clause-within c = rw (c.as_slice-symbols.ensures.symbols, c.deref.ensures.value) (last-within _ _ _ c.self.invariant.stack_within)
