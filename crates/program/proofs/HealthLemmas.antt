-- What was found in a part of a call was found in the call.
use Rattle.std.proofs.Common.{◌≡◌, ℕ, List, subst}
use Rattle.nodes.specs.Words.{IsPrefixOf}
use Rattle.nodes.specs.declared.moment.Moment.{Moment}
use Rattle.nodes.specs.Questions.{IsHealth}
use Rattle.nodes.proofs.PrefixLemmas.{prefix_self, prefix_trans}
use Rattle.world.specs.declared.health.Health.{Health}
use Rattle.program.specs.Recovery.{WasHealth, WereApplied}

pub was_health : (old first last : List Moment) (n m : ℕ) (health : Health) → IsPrefixOf old first → m ≡ n → IsHealth first last m health → WasHealth old last n health
was_health old first last n m health pre same is =
    record { first = first; later = pre; last = last; earlier = prefix_self last; is_health = subst (λ (i : ℕ). IsHealth first last i health) same is }

pub were_applied : (old first last : List Moment) (n m k entries : ℕ) → IsPrefixOf old first → m ≡ n → WereApplied first last m k entries → WereApplied old last n k entries
were_applied old first last n m k entries pre same w = (
  w.0,
  record {
    first = w.1.first;
    later = prefix_trans old first w.1.first pre w.1.later;
    last = w.1.last;
    earlier = w.1.earlier;
    is_health = subst (λ (i : ℕ). IsHealth w.1.first w.1.last i w.0) same w.1.is_health;
  },
  w.2,
)
