use Rattle.program.proofs.served_weather.+weathers.Given as goal

abbrev pub decreases-weathers : goal.decreases-weathers
decreases-weathers l = l.nodes
