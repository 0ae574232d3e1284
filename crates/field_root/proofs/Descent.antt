-- Tonelli and Shanks' loop on residues: the level i falls to 0 (`Descending`), and then x is the root.
use Prim.Native.Nat.{ℕ, suc, ◌+◌, ◌-◌, ◌*◌, ◌/◌, ◌^◌, ◌≤◌, ◌<◌}
use mathlib.Core.Path.{◌≡◌, sym, ap, ap₂, ◌∙◌, subst}
use mathlib.Core.Logic.{◌≢◌}
use native.Mathlib.Omega.{arith}
use Rattle.algebra.proofs.Ring.Field.{Field}
use Rattle.algebra.proofs.Ring.Power.{power}
use Rattle.algebra.proofs.Zmod.Prime.{Prime}
use Rattle.algebra.proofs.Zmod.Zmod.{zmod, emb_zero, emb_inj}
use Rattle.field.specs.declared.Modulus.{Modulus}
use Rattle.field.specs.declared.Residue.{Residue}
use Rattle.field.specs.Residues.{el, Kept, Stands}
use Rattle.field.proofs.Laws.{residue_field}
use Rattle.field_words.specs.Newton.{Zeros}
use Rattle.rules.proofs.Roots.Tonelli.{Level, other_root, begin, keep, change, finish}
use Rattle.rules.proofs.Roots.Square.{square_iff, power_half}
use Rattle.field_root.specs.Squares.{Square, LeastNonsquare, ToRoot, RootOf}

-- from the start x₀, b₀, c₀ at level j: what holds of it for an element holds at i
pub record Descending (m : Modulus) (j : ℕ) (x₀ b₀ c₀ : Residue) (i : ℕ) (x b c : Residue) : Type 0 where
  pub kept_x : Kept m x
  pub kept_b : Kept m b
  pub kept_c : Kept m c
  pub few : i < 64
  pub level : (A : (zmod m.p).El) → Level (zmod m.p) A j (el m x₀) (el m b₀) (el m c₀) → Level (zmod m.p) A i (el m x) (el m b) (el m c)

module _ (m : Modulus) (prime : Prime m.p) where
  abbrev p : ℕ
  p = m.p

  abbrev K : Field
  K = residue_field m prime

  abbrev half : ℕ
  half = (p - 1) / 2

  odd : 2 < p
  odd = omega (arith, m.odd.from)

  -- n = (p-1)/2 = q 2^i, q odd
  pub first_level : (a : Residue) (n : ℕ) → n ≡ half → (i : ℕ) (z x b c : Residue) → Zeros n i → ToRoot m a → LeastNonsquare m z
      → Stands m x (power (zmod p) (el m a) (n / 2 ^ i / 2 + 1)) → Stands m b (power (zmod p) (el m a) (n / 2 ^ i)) → Stands m c (power (zmod p) (el m z) (n / 2 ^ i)) → Level (zmod p) (el m a) i (el m x) (el m b) (el m c)
  first_level a n n_is i z x b c h s l hx hb hc = from (subst (λ (t : ℕ). Level (zmod p) (el m a) i (power (zmod p) (el m a) ((n / 2 ^ i / 2) + 1)) (power (zmod p) (el m a) t) (power (zmod p) (el m z) t)) q_is level)
    where
      q_is : 2 * (n / 2 ^ i / 2) + 1 ≡ n / 2 ^ i
      q_is = omega (arith, h.all)

      whole : half ≡ (2 * (n / 2 ^ i / 2) + 1) * 2 ^ i
      whole = sym n_is ∙ sym h.whole ∙ ap (λ (t : ℕ). t * 2 ^ i) (sym q_is)

      z_ne : el m z ≢ (zmod p).zer
      z_ne e = absurd (omega (arith, l.from, emb_inj p (omega (arith, odd)) l.n 0 l.below (omega (arith, odd)) (sym l.is ∙ e ∙ sym (emb_zero p))))

      of_z : power (zmod p) (el m z) half ≡ (zmod p).neg (zmod p).one
      of_z = other_root K (power (zmod p) (el m z) half) (power_half p prime odd (el m z) z_ne) (λ e. l.nonsquare (subst (Square p) l.is ((square_iff p prime odd (el m z) z_ne).1 e)))

      level : Level (zmod p) (el m a) i (power (zmod p) (el m a) ((n / 2 ^ i / 2) + 1)) (power (zmod p) (el m a) (2 * (n / 2 ^ i / 2) + 1)) (power (zmod p) (el m z) (2 * (n / 2 ^ i / 2) + 1))
      level = begin K (el m a) (el m z) (n / 2 ^ i / 2) i (ap (power (zmod p) (el m a)) (sym whole) ∙ (square_iff p prime odd (el m a) s.unit.nonzero).0 s.square) (ap (power (zmod p) (el m z)) (sym whole) ∙ of_z)

      from : Level (zmod p) (el m a) i (power (zmod p) (el m a) ((n / 2 ^ i / 2) + 1)) (power (zmod p) (el m a) (n / 2 ^ i)) (power (zmod p) (el m z) (n / 2 ^ i)) → Level (zmod p) (el m a) i (el m x) (el m b) (el m c)
      from v = record { square = ap₂ (zmod p).mul hx.is hx.is ∙ v.square ∙ ap ((zmod p).mul (el m a)) (sym hb.is); of_b = ap (λ t. power (zmod p) t (2 ^ i)) hb.is ∙ v.of_b; of_c = ap (λ t. power (zmod p) t (2 ^ i)) hc.is ∙ v.of_c }

  module _ {j : ℕ} {x₀ b₀ c₀ x b c : Residue} {i : ℕ} (h : Descending m j x₀ b₀ c₀ i x b c) (some : 0 < i) (d : Residue) (hd : Stands m d ((zmod p).mul (el m c) (el m c))) (t : ℕ) (t_is : t ≡ 2 ^ (i - 1)) where
    above : (A : (zmod p).El) → Level (zmod p) A j (el m x₀) (el m b₀) (el m c₀) → Level (zmod p) A (suc (i - 1)) (el m x) (el m b) (el m c)
    above A l = subst (λ (t : ℕ). Level (zmod p) A t (el m x) (el m b) (el m c)) {x = i} {y = suc (i - 1)} (omega arith) (h.level A l)

    pub stays : (w : Residue) → Stands m w (power (zmod p) (el m b) t) → el m w ≡ (zmod p).one → Descending m j x₀ b₀ c₀ (i - 1) x b d
    stays w hw e = record {
      kept_x = h.kept_x;
      kept_b = h.kept_b;
      kept_c = hd.kept;
      few = omega (arith, h.few);
      level = λ A l. subst (Level (zmod p) A (i - 1) (el m x) (el m b)) (sym hd.is) (keep K (above A l) (ap (power (zmod p) (el m b)) (sym t_is) ∙ sym hw.is ∙ e));
    }

    pub changes : (w y e : Residue) → Stands m w (power (zmod p) (el m b) t) → (el m w ≡ (zmod p).one → ⊥) → Stands m y ((zmod p).mul (el m x) (el m c)) → Stands m e ((zmod p).mul (el m b) (el m d)) → Descending m j x₀ b₀ c₀ (i - 1) y e d
    changes w y e hw ne hy he = record {
      kept_x = hy.kept;
      kept_b = he.kept;
      kept_c = hd.kept;
      few = omega (arith, h.few);
      level = λ A l. from A (change K (above A l) (λ g. ne (hw.is ∙ ap (power (zmod p) (el m b)) t_is ∙ g)));
    }
      where
        from : (A : (zmod p).El) → Level (zmod p) A (i - 1) ((zmod p).mul (el m x) (el m c)) ((zmod p).mul (el m b) ((zmod p).mul (el m c) (el m c))) ((zmod p).mul (el m c) (el m c)) → Level (zmod p) A (i - 1) (el m y) (el m e) (el m d)
        from A l = record {
          square = ap₂ (zmod p).mul hy.is hy.is ∙ l.square ∙ ap ((zmod p).mul A) (sym e_is);
          of_b = ap (λ t. power (zmod p) t (2 ^ (i - 1))) e_is ∙ l.of_b;
          of_c = ap (λ t. power (zmod p) t (2 ^ (i - 1))) hd.is ∙ l.of_c;
        }
          where
            e_is : el m e ≡ (zmod p).mul (el m b) ((zmod p).mul (el m c) (el m c))
            e_is = he.is ∙ ap ((zmod p).mul (el m b)) hd.is

  pub descended : (a : Residue) {j : ℕ} {x₀ b₀ c₀ x b c : Residue} {i : ℕ} → Descending m j x₀ b₀ c₀ i x b c → Level (zmod p) (el m a) j (el m x₀) (el m b₀) (el m c₀) → i ≤ 0 → RootOf m a x
  descended a {j} {x₀} {b₀} {c₀} {x} {b} {c} {i} h l e = record { kept = h.kept_x; is = finish K (subst (λ (t : ℕ). Level (zmod p) (el m a) t (el m x) (el m b) (el m c)) {x = i} {y = 0} (omega arith) (h.level (el m a) l)) }
