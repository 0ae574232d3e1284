use mathlib.Core.Path.{refl}
use Rattle.divisor_repeat.proofs.Compared.{as_cases, held_padded, same_padded}
use Rattle.divisor_repeat.proofs.same.Goals as goal

pub same_cubics-requires : goal.same_cubics-requires
same_cubics-requires c = held_padded c.args.m c.requires c.in-One-One.is-0 c.in-One-One.is-1 2 refl c.pad_one.ensures c.pad_one-in-One-One.ensures

pub same_cubics-requires-in-Two-Two : goal.same_cubics-requires-in-Two-Two
same_cubics-requires-in-Two-Two c = held_padded c.args.m c.requires c.in-Two-Two.is-0 c.in-Two-Two.is-1 1 refl c.pad_two.ensures c.pad_two-in-Two-Two.ensures

pub returns-in-One-One : goal.returns-in-One-One
returns-in-One-One c = same_padded c.args.m c.requires c.in-One-One.is-0 c.in-One-One.is-1 2 refl c.pad_one.ensures c.pad_one-in-One-One.ensures c.same_cubics.result c.same_cubics.ensures

pub returns-in-Two-Two : goal.returns-in-Two-Two
returns-in-Two-Two c = same_padded c.args.m c.requires c.in-Two-Two.is-0 c.in-Two-Two.is-1 1 refl c.pad_two.ensures c.pad_two-in-Two-Two.ensures c.same_cubics-in-Two-Two.result c.same_cubics-in-Two-Two.ensures

pub returns-in-Three-Three : goal.returns-in-Three-Three
returns-in-Three-Three c = as_cases c.args.m c.requires c.in-Three-Three.is-0 c.in-Three-Three.is-1 c.same_cubics-in-Three-Three.result c.same_cubics-in-Three-Three.ensures
