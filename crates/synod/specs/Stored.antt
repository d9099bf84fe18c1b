-- How a node stores tallies, received pages and weights. No public clause cites it.
pub mod OtherTallies
pub mod ReceivedPages
pub mod PaddedWeights
