use Rattle.read_pool.proofs.PartsLemmas.{parts_read}
use Rattle.read_pool.proofs.parts.+parts.Goals as goal

pub returns : goal.returns
returns g t c =
    parts_read c.args.text.now c.split_at.result.0.now c.split_at.result.1.now c.cut_near.result c.cut_near.ensures c.split_at.ensures.front c.split_at.ensures.back
    c.join-first.result.0 c.join-first.result.1 c.join-first.ensures.first c.join-first.ensures.second c.concatenate.result c.concatenate.ensures
