-- The size of a derivation, counted no further than one above the limits.
-- This project's limits: a tree that is returned has at most 65,536 nodes and depth 1,024.
-- The code counts no further, since each recall may double a tree.
use Rattle.std.specs.Prelude.{min}
use Rattle.verify.specs.declared.plan.Extent.{Extent}
use Rattle.verify.specs.Derivations.{Derivation, node_count, depth}

-- the number of nodes and the depth, each at most one above its limit
abbrev pub extent_of : Derivation → Extent
extent_of t = record { nodes = min (node_count t) 65537; depth = min (depth t) 1025 }
