-- What reading p promises: a modulus with p prime, and the rule goes on with what stands behind p; or the rule's refusal. Document 01, number 5; document 02, W-201: 5 and 18.
use Rattle.std.specs.Prelude.{ℕ, ◌≡◌, Result, Ok, Err, List, get_or}
use Rattle.refusals.specs.declared.Refusal.{Refusal}
use Rattle.refusals.specs.Refusal.{number_of}
use Rattle.rules.specs.Bytes.{word64}
use Rattle.rules.specs.Records.{refused, read_curve}
use Rattle.field.specs.declared.PrimeModulus.{PrimeModulus}
use Rattle.record_curve_head.specs.Heads.{low_rule}

pub record PrimeTaken (s : List ℕ) (prime : PrimeModulus) : Type 0 where
  pub is : prime.m.p ≡ word64 s 6
  pub goes_on : read_curve s ≡ low_rule s (get_or s 5 0) (word64 s 6)

abbrev pub PrimeIs : List ℕ → Result PrimeModulus Refusal → Type 0
PrimeIs s (Ok m) = PrimeTaken s m
PrimeIs s (Err by) = read_curve s ≡ refused (number_of by) 0
