use Rattle.divisor_census.proofs.Skipping.{skipped_three}
use Rattle.divisor_census.proofs.skip.Goals as goal

pub returns-in-Three : goal.returns-in-Three
returns-in-Three c = skipped_three c.args.c _ c.screen_of.result c.screen_of.ensures c.first_passing.result c.first_passing.ensures c.of_row.result c.in-Three.is c.args.w c.of_row.ensures.0 c.requires.0 c.args.row c.of_row.ensures.1 c.requires.1
