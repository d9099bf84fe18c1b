-- The laws, from the lemmas on runs and spellings.
use Rattle.verify.proofs.Words.{◌+◌, [], ◌∷◌, refl, arith, legal-labels, RunsSpell, SpellingsRun, SpelledOnce}
use Rattle.verify.proofs.Sound.{Spelled, sound}
use Rattle.verify.proofs.Complete.{Result, complete, state}
use Rattle.verify.proofs.GrowthLemmas.{spelled_once}

-- a run that leaves one result spells a derivation of it
pub runs_spell : RunsSpell
runs_spell S at items end e runs one =
    let p : Spelled S at items e end.weight = sound S at items end e runs one in
    record { tree = p.tree; after = p.after; spelled = p.spelled; concludes = p.concludes }

-- items that spell a derivation run from the empty stack to its conclusion alone
pub spellings_run : SpellingsRun
spellings_run S at single items t after weight spelled =
    let r : Result S at single items t after weight [] = complete S at single spelled [] tt in
    record {
      end = state S at single (r.result ∷ []) r.saved' (0 + weight);
      result = r.result;
      runs = r.runs [] 0;
      one = refl;
      concludes = r.concludes;
      weighs = omega arith;
    }

-- among legal statements, two derivations that the same items spell are equal
pub once : SpelledOnce
once S at legal items t u after after' weight weight' p q =
    spelled_once S at (legal-labels S legal) [] after after' items t u weight weight' p q
