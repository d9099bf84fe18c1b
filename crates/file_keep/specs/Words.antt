-- Names of `synod`, `slots` and the kit's SQLite that the specifications of this crate use.
pub use Rattle.slots.specs.FiniteMap.{entry_at, trimmed}
pub use Rattle.synod.specs.Record.{KeptPart, changed}
pub use Rattle.synod.specs.declared.ballot.Ballot.{Ballot}
pub use Rattle.synod.specs.declared.change.AcceptedEntry.{AcceptedEntry}
pub use Rattle.synod.specs.declared.change.Change.{Change}
pub use Rattle.sqlite_value.specs.Order.{Row}
pub use Rattle.sqlite_value.specs.declared.value.Value.{Value}
pub use Rattle.sqlite_value.specs.declared.value.Value.TheVariants.{Int, Null}
pub use Rattle.sqlite_trees.specs.Tree.{Trees, put_row, with_tree}
pub use Rattle.sqlite_trees.specs.View.{View, IsClean, doubt}
pub use Rattle.sqlite_trees.specs.declared.store.Shape.TheVariants.{Table}
