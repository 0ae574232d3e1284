use mathlib.Core.Path.{sym, ap, ap₂, ◌∙◌}
use native.Mathlib.Omega.{arith}
use borrow.Author.Tests.{not-true, not-false}
use Prim.Native.Nat.{ℕ, ◌+◌, ◌*◌}
use Rattle.rules.specs.Records.{has_version, has_genus}
use Rattle.record_curve_head.proofs.Head.{too_short, unmarked, other_version, other_genus}
use borrow.Author.Rules.{rules}
use Rattle.record_curve_head.proofs.check_head.Reads as reads
use Rattle.record_bytes.proofs.wide.Reads as wide-reads
use Rattle.record_curve_head.proofs.is_genus.Reads as is-genus-reads
use Rattle.record_curve_head.proofs.is_version.Reads as is-version-reads
use Rattle.record_bytes.proofs.marked.Reads as marked-reads
use Rattle.record_curve_head.proofs.plain_length.Reads as plain-length-reads
use Rattle.record_curve_head.proofs.witness_length.Reads as witness-length-reads
use Rattle.std.proofs.Common.{not}
use Rattle.record_curve_head.proofs.check_head.Goals as goal

pub returns-then-s-lt6 : goal.returns-then-s-lt6
returns-then-s-lt6 c = too_short _ c.if-s-lt6.true

pub returns-then-not-marked : goal.returns-then-not-marked
returns-then-not-marked c = unmarked _ c.if-s-lt6.false (sym c.marked.ensures ∙ not-true _ (ap not c.if-not-marked.true))

pub returns-then-not-is_version : goal.returns-then-not-is_version
returns-then-not-is_version c = other_version _ c.if-s-lt6.false (sym c.marked.ensures ∙ not-false _ (ap not c.if-not-marked.false)) (ap has_version (sym (ap₂ (λ (x y : ℕ). x * 256 + y) c.wide.ensures.0 c.wide-2.ensures.0)) ∙ sym c.is_version.ensures ∙ not-true _ (ap not c.if-not-is_version.true))

pub returns-then-not-is_genus : goal.returns-then-not-is_genus
returns-then-not-is_genus c =
    other_genus _ c.if-s-lt6.false (sym c.marked.ensures ∙ not-false _ (ap not c.if-not-marked.false)) (ap has_version (sym (ap₂ (λ (x y : ℕ). x * 256 + y) c.wide.ensures.0 c.wide-2.ensures.0)) ∙ sym c.is_version.ensures ∙ not-false _ (ap not c.if-not-is_version.false)) (ap has_genus (sym c.wide-3.ensures.0) ∙ sym c.is_genus.ensures ∙ not-true _ (ap not c.if-not-is_genus.true))
