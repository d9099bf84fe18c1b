use Rattle.scope.proofs.Words.{◌≡◌, ◌∙◌, ap, sym, arith, false, not, ◌&&◌, take, ◌++◌, ◌∷◌, [], length, append_assoc, ◌+◌, has_name, all_different}
use Rattle.scope.proofs.SortsLemmas.{short_differ, first-length, first-more, all_different-append, all_different-front}
use Rattle.scope.proofs.legal.are_distinct_pairwise.Goals as goal

pub returns-then-len-lt2 : goal.returns-then-len-lt2
returns-then-len-lt2 c = sym (short_differ c.args.words.now (omega arith))

pub returns-then-is_among_first : goal.returns-then-is_among_first
returns-then-is_among_first c =
    let X = take c.loop-i.i c.args.words.now in let w = c.in-Some.word.now in let rest = c.next.new.self in
    let split : X ++ (w ∷ rest) ≡ c.args.words.now = ap (λ r. X ++ r) (sym c.in-Some.ensures.steps) ∙ c.loop-i.invariant.split in
    let again : all_different (X ++ w ∷ []) ≡ false =
    all_different-append X w ∙ (ap (λ b. b && not (has_name w X)) c.loop-i.invariant.differ ∙ ap not (sym c.if-is_among_first.ensures)) in
    sym (ap all_different (sym split ∙ sym (append_assoc X (w ∷ []) rest)) ∙ all_different-front (X ++ w ∷ []) rest again)

pub loop-i-preserved : goal.loop-i-preserved
loop-i-preserved c =
    let X = take c.loop-i.i c.args.words.now in let w = c.in-Some.word.now in let rest = c.next.new.self in
    let split : X ++ (w ∷ rest) ≡ c.args.words.now = ap (λ r. X ++ r) (sym c.in-Some.ensures.steps) ∙ c.loop-i.invariant.split in
    let long : c.loop-i.i + length (w ∷ rest) ≡ length c.args.words.now = ap (λ r. c.loop-i.i + length r) (sym c.in-Some.ensures.steps) ∙ c.loop-i.invariant.size in
    let more = first-more X rest c.args.words.now w c.loop-i.i split (first-length X (w ∷ rest) c.args.words.now c.loop-i.i split long) in
    record {
      split = ap (λ r. r ++ rest) more ∙ (append_assoc X (w ∷ []) rest ∙ split);
      size = omega (arith, long);
      fits = c.loop-i.invariant.fits;
      differ = ap all_different more ∙ (all_different-append X w ∙ (ap (λ b. b && not (has_name w X)) c.loop-i.invariant.differ ∙ ap not (sym c.if-is_among_first.ensures)));
    }
