use Rattle.places.proofs.SkipLemmas.{skips_runs}
use Rattle.places.proofs.description.skip_to_run_with_dollar.Goals as goal

pub returns : goal.returns
returns c =
    skips_runs c.args.text.now c.args.at c.requires c.after_last_white.result c.count_before_dollar.result _ _ c.split_at.ensures.back c.split_at-2.ensures.front
    c.count_before_dollar.ensures.within c.count_before_dollar.ensures.no_dollar c.after_last_white.ensures.within c.after_last_white.ensures.white
