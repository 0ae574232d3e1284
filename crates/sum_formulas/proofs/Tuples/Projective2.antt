-- Genus 2 without division (source 001): every value of its two tables is a power of Z times the value of the affine table (W-204) at the quotients. x is the Z of the other pair, z the common one;
-- (a, c) are the base pair's coefficients, (b, d) the other's; s = w·(x + t), wi = 1/w. Gives: r, s1 and s0·z of an addition (`chord-..`, scale z·z·x) and of a doubling (`right-..`, `tangent-..`,
-- scale z⁴), steps 2 to 4; then what both tables share, scaled by S3 = (s1·z)²: `new-u..` and `twice-u..` the new u, `line-..` and `new-v..` the new v, `last_z` the last Z, steps 5 to 10.
use mathlib.Core.Path.{◌≡◌, refl}
use mathlib.Core.List.{[], ◌∷◌}
use Rattle.algebra.proofs.Ring.CRing.{CRing}
use Rattle.algebra.proofs.Ring.Quote.{ring, quote, by}

module _ (F : CRing) where
  open F use {El as A, add as ◌+◌, mul as ◌*◌, neg, one as 𝟙}

  infixl 65 ◌+◌
  infixl 65 ◌-◌
  infixl 70 ◌*◌
  abbrev ◌-◌ : A → A → A
  a - b = a + neg b

  -- ---- addition: over a common Z, and how both u differ
  pub widen_is : (y x a U u z : A) → U ≡ y * a → u ≡ U * x → z ≡ y * x
      → u ≡ z * a
  widen_is y x a U u z h-U h_u h-z =
      simp (h-z, h_u, h-U) (ring F (y ∷ x ∷ a ∷ []) (search quote depth 40) refl)

  pub differ_1 : (z a1 b1 W1 A1 z1 : A) → W1 ≡ z * b1 → A1 ≡ z * a1 → z1 ≡ W1 - A1
      → z1 ≡ z * (b1 - a1)
  differ_1 z a1 b1 W1 A1 z1 h-W1 h-A1 h-z1 =
      simp (h-z1, h-A1, h-W1) (ring F (z ∷ a1 ∷ b1 ∷ []) (search quote depth 40) refl)

  pub differ_2 : (z a0 b0 W0 A0 z2 : A) → W0 ≡ z * b0 → A0 ≡ z * a0 → z2 ≡ A0 - W0
      → z2 ≡ z * (a0 - b0)
  differ_2 z a0 b0 W0 A0 z2 h-W0 h-A0 h-z2 =
      simp (h-z2, h-A0, h-W0) (ring F (z ∷ a0 ∷ b0 ∷ []) (search quote depth 40) refl)

  pub both_1 : (z a1 b1 W1 A1 m : A) → W1 ≡ z * b1 → A1 ≡ z * a1 → m ≡ W1 + A1
      → m ≡ z * (b1 + a1)
  both_1 z a1 b1 W1 A1 m h-W1 h-A1 h-m =
      simp (h-m, h-A1, h-W1) (ring F (z ∷ a1 ∷ b1 ∷ []) (search quote depth 40) refl)

  -- ---- its first half
  pub chord_r : (x z a0 a1 b0 b1 U1 U0 z1 z2 z3 y r : A) → U1 ≡ x * b1 → U0 ≡ x * b0 → z1 ≡ z * (b1 - a1) → z2 ≡ z * (a0 - b0) → z3 ≡ U1 * z1 + z2 * x → y ≡ z1 * U0 → r ≡ z2 * z3 + z1 * y
      → r ≡ z * z * x * ((a0 - b0) * (b1 * (b1 - a1) + (a0 - b0)) + (b1 - a1) * (b1 - a1) * b0)
  chord_r x z a0 a1 b0 b1 U1 U0 z1 z2 z3 y r h-U1 h-U0 h-z1 h-z2 h-z3 h-y h-r =
      simp (h-r, h-y, h-z3, h-z2, h-z1, h-U0, h-U1) (ring F (x ∷ z ∷ a0 ∷ a1 ∷ b0 ∷ b1 ∷ []) (search quote depth 40) refl)

  pub chord_s1 : (x z a0 a1 c0 c1 b0 b1 d0 d1 z1 z2 D1 D0 C1 C0 w0 w1 s1 : A) → z1 ≡ z * (b1 - a1) → z2 ≡ z * (a0 - b0) → D1 ≡ z * d1 → D0 ≡ z * d0 → C1 ≡ z * c1 → C0 ≡ z * c0 → w0 ≡ D0 - C0 → w1 ≡ D1 - C1 → s1 ≡ (z2 * w1 + z1 * w0) * x
      → s1 ≡ z * z * x * (((b1 * (b1 - a1) + (a0 - b0)) + (b1 - a1)) * (d0 - c0 + (d1 - c1)) - (b1 * (b1 - a1) + (a0 - b0)) * (d0 - c0) - (b1 - a1) * (d1 - c1) - (b1 - a1) * (d1 - c1) * b1)
  chord_s1 x z a0 a1 c0 c1 b0 b1 d0 d1 z1 z2 D1 D0 C1 C0 w0 w1 s1 h-z1 h-z2 h-D1 h-D0 h-C1 h-C0 h-w0 h-w1 h-s1 =
      simp (h-s1, h-w1, h-w0, h-C0, h-C1, h-D0, h-D1, h-z2, h-z1) (ring F (x ∷ z ∷ a0 ∷ a1 ∷ c0 ∷ c1 ∷ b0 ∷ b1 ∷ d0 ∷ d1 ∷ []) (search quote depth 40) refl)

  pub chord_s0 : (x z a0 a1 c0 c1 b0 b1 d0 d1 U1 U0 z1 z2 z3 y D1 D0 C1 C0 w0 w1 s0 : A) → U1 ≡ x * b1 → U0 ≡ x * b0 → z1 ≡ z * (b1 - a1) → z2 ≡ z * (a0 - b0) → z3 ≡ U1 * z1 + z2 * x → y ≡ z1 * U0 → D1 ≡ z * d1 → D0 ≡ z * d0 → C1 ≡ z * c1 → C0 ≡ z * c0 → w0 ≡ D0 - C0 → w1 ≡ D1 - C1 → s0 ≡ (z3 * w0 - w1 * y) * z
      → s0 ≡ z * z * x * z * ((b1 * (b1 - a1) + (a0 - b0)) * (d0 - c0) - b0 * ((b1 - a1) * (d1 - c1)))
  chord_s0 x z a0 a1 c0 c1 b0 b1 d0 d1 U1 U0 z1 z2 z3 y D1 D0 C1 C0 w0 w1 s0 h-U1 h-U0 h-z1 h-z2 h-z3 h-y h-D1 h-D0 h-C1 h-C0 h-w0 h-w1 h-s0 =
      simp (h-s0, h-w1, h-w0, h-C0, h-C1, h-D0, h-D1, h-y, h-z3, h-z2, h-z1, h-U0, h-U1) (ring F (x ∷ z ∷ a0 ∷ a1 ∷ c0 ∷ c1 ∷ b0 ∷ b1 ∷ d0 ∷ d1 ∷ []) (search quote depth 40) refl)

  -- ---- doubling: the right side k, and its first half
  pub right_d : (z a1 f4 U1 b d : A) → U1 ≡ z * a1 → b ≡ U1 - f4 * z → d ≡ U1 + b
      → d ≡ z * (a1 + a1 - f4)
  right_d z a1 f4 U1 b d h-U1 h-b h-d =
      simp (h-d, h-b, h-U1) (ring F (z ∷ a1 ∷ f4 ∷ []) (search quote depth 40) refl)

  pub right_k1 : (z a0 a1 f3 f4 U1 U0 b d w q e k1 : A) → U1 ≡ z * a1 → U0 ≡ z * a0 → b ≡ U1 - f4 * z → d ≡ U1 + b → w ≡ U0 + U0 → q ≡ z * z → e ≡ f3 * q + U1 * b → k1 ≡ U1 * d - z * w + e
      → k1 ≡ z * z * (a1 * a1 - f4 * a1 + (a1 * a1 - f4 * a1) + (f3 + a1 * a1) - (a0 + a0))
  right_k1 z a0 a1 f3 f4 U1 U0 b d w q e k1 h-U1 h-U0 h-b h-d h_w h-q h-e h-k1 =
      simp (h-k1, h-e, h-q, h_w, h-d, h-b, h-U0, h-U1) (ring F (z ∷ a0 ∷ a1 ∷ f3 ∷ f4 ∷ []) (search quote depth 40) refl)

  pub right_k0 : (z a0 a1 c1 f2 f3 f4 U1 U0 b d w q e V1 g k0 : A) → U1 ≡ z * a1 → U0 ≡ z * a0 → b ≡ U1 - f4 * z → d ≡ U1 + b → w ≡ U0 + U0 → q ≡ z * z → e ≡ f3 * q + U1 * b → V1 ≡ z * c1 → g ≡ f2 * q + w * d - V1 * V1 → k0 ≡ z * g - U1 * e
      → k0 ≡ z * z * z * (a1 * (a0 + a0 + (a0 + a0) - (f3 + a1 * a1) + f4 * a1) + f2 - c1 * c1 - (f4 * a0 + f4 * a0))
  right_k0 z a0 a1 c1 f2 f3 f4 U1 U0 b d w q e V1 g k0 h-U1 h-U0 h-b h-d h_w h-q h-e h-V1 h-g h-k0 =
      simp (h-k0, h-g, h-V1, h-e, h-q, h_w, h-d, h-b, h-U0, h-U1) (ring F (z ∷ a0 ∷ a1 ∷ c1 ∷ f2 ∷ f3 ∷ f4 ∷ []) (search quote depth 40) refl)

  pub tangent_r : (z a0 a1 c0 c1 U1 U0 V1 V0 g1 g0 e i0 y r : A) → U1 ≡ z * a1 → U0 ≡ z * a0 → V1 ≡ z * c1 → V0 ≡ z * c0 → g1 ≡ V1 + V1 → g0 ≡ V0 + V0 → e ≡ g0 * z → i0 ≡ e - U1 * g1 → y ≡ g1 * U0 * z → r ≡ e * i0 + g1 * y
      → r ≡ z * z * z * z * (a0 * (c1 * c1 + c1 * c1 + (c1 * c1 + c1 * c1)) + (c0 + c0) * (c0 + c0 - a1 * (c1 + c1)))
  tangent_r z a0 a1 c0 c1 U1 U0 V1 V0 g1 g0 e i0 y r h-U1 h-U0 h-V1 h-V0 h-g1 h-g0 h-e h-i0 h-y h-r =
      simp (h-r, h-y, h-i0, h-e, h-g0, h-g1, h-V0, h-V1, h-U0, h-U1) (ring F (z ∷ a0 ∷ a1 ∷ c0 ∷ c1 ∷ []) (search quote depth 40) refl)

  pub tangent_s1 : (z a1 c0 c1 k l V1 V0 g1 g0 e k0 k1 s1 : A) → V1 ≡ z * c1 → V0 ≡ z * c0 → g1 ≡ V1 + V1 → g0 ≡ V0 + V0 → e ≡ g0 * z → k0 ≡ z * z * z * k → k1 ≡ z * z * l → s1 ≡ e * k1 - g1 * k0
      → s1 ≡ z * z * z * z * (((c0 + c0 - a1 * (c1 + c1)) + neg (c1 + c1)) * (k + l) - (c0 + c0 - a1 * (c1 + c1)) * k - neg (c1 + c1) * l - neg (c1 + c1) * l * a1)
  tangent_s1 z a1 c0 c1 k l V1 V0 g1 g0 e k0 k1 s1 h-V1 h-V0 h-g1 h-g0 h-e h-k0 h-k1 h-s1 =
      simp (h-s1, h-k1, h-k0, h-e, h-g0, h-g1, h-V0, h-V1) (ring F (z ∷ a1 ∷ c0 ∷ c1 ∷ k ∷ l ∷ []) (search quote depth 40) refl)

  pub tangent_s0 : (z a0 a1 c0 c1 k l U1 U0 V1 V0 g1 g0 e i0 y k0 k1 s0 : A) → U1 ≡ z * a1 → U0 ≡ z * a0 → V1 ≡ z * c1 → V0 ≡ z * c0 → g1 ≡ V1 + V1 → g0 ≡ V0 + V0 → e ≡ g0 * z → i0 ≡ e - U1 * g1 → y ≡ g1 * U0 * z → k0 ≡ z * z * z * k → k1 ≡ z * z * l → s0 ≡ i0 * k0 + y * k1
      → s0 ≡ z * z * z * z * z * ((c0 + c0 - a1 * (c1 + c1)) * k - a0 * (neg (c1 + c1) * l))
  tangent_s0 z a0 a1 c0 c1 k l U1 U0 V1 V0 g1 g0 e i0 y k0 k1 s0 h-U1 h-U0 h-V1 h-V0 h-g1 h-g0 h-e h-i0 h-y h-k0 h-k1 h-s0 =
      simp (h-s0, h-k1, h-k0, h-y, h-i0, h-e, h-g0, h-g1, h-V0, h-V1, h-U0, h-U1) (ring F (z ∷ a0 ∷ a1 ∷ c0 ∷ c1 ∷ k ∷ l ∷ []) (search quote depth 40) refl)

  -- ---- the new u, of two pairs and of one with itself
  pub new_u1 : (z s1 t wi a1 b1 r s0 R s3 S3 z1 y d n1 : A) → r ≡ wi * s1 → s0 ≡ t * s1 * z → R ≡ z * r → s3 ≡ s1 * z → S3 ≡ s3 * s3 → z1 ≡ z * (b1 - a1) → y ≡ s1 * z1 → d ≡ s0 - y → n1 ≡ s3 * (s0 + d) - R * R
      → n1 ≡ S3 * (t + t - (b1 - a1) - wi * wi)
  new_u1 z s1 t wi a1 b1 r s0 R s3 S3 z1 y d n1 h-r h-s0 h-R h-s3 h-S3 h-z1 h-y h-d h-n1 =
      simp (h-n1, h-d, h-y, h-z1, h-S3, h-s3, h-R, h-s0, h-r) (ring F (z ∷ s1 ∷ t ∷ wi ∷ a1 ∷ b1 ∷ []) (search quote depth 40) refl)

  pub new_u0 : (z s1 t wi a0 a1 b0 b1 c1 f4 r s0 R s3 S3 A1 B1 T z1 z2 m y d c n0 : A) → r ≡ wi * s1 → s0 ≡ t * s1 * z → R ≡ z * r → s3 ≡ s1 * z → S3 ≡ s3 * s3 → A1 ≡ z * a1 → B1 ≡ z * c1 → T ≡ s1 * A1 → z1 ≡ z * (b1 - a1) → z2 ≡ z * (a0 - b0) → m ≡ z * (b1 + a1) → y ≡ s1 * z1 → d ≡ s0 - y → c ≡ s1 * (B1 + B1) + r * (m - f4 * z) → n0 ≡ d * d + y * T + (s3 * (s1 * z2) + R * c)
      → n0 ≡ S3 * ((t - b1) * (t - (b1 - a1)) - b0 + (a1 * t + a0) + (c1 + c1) * wi + (a1 + a1 + (b1 - a1) - f4) * (wi * wi))
  new_u0 z s1 t wi a0 a1 b0 b1 c1 f4 r s0 R s3 S3 A1 B1 T z1 z2 m y d c n0 h-r h-s0 h-R h-s3 h-S3 h-A1 h-B1 h-T h-z1 h-z2 h-m h-y h-d h_c h-n0 =
      simp (h-n0, h_c, h-d, h-y, h-m, h-z2, h-z1, h-T, h-B1, h-A1, h-S3, h-s3, h-R, h-s0, h-r) (ring F (z ∷ s1 ∷ t ∷ wi ∷ a0 ∷ a1 ∷ b0 ∷ b1 ∷ c1 ∷ f4 ∷ []) (search quote depth 40) refl)

  pub twice_u1 : (z s1 t wi a1 r s0 R s3 S3 n1 : A) → r ≡ wi * s1 → s0 ≡ t * s1 * z → R ≡ z * r → s3 ≡ s1 * z → S3 ≡ s3 * s3 → n1 ≡ s3 * (s0 + s0) - R * R
      → n1 ≡ S3 * (t + t - (a1 - a1) - wi * wi)
  twice_u1 z s1 t wi a1 r s0 R s3 S3 n1 h-r h-s0 h-R h-s3 h-S3 h-n1 =
      simp (h-n1, h-S3, h-s3, h-R, h-s0, h-r) (ring F (z ∷ s1 ∷ t ∷ wi ∷ a1 ∷ []) (search quote depth 40) refl)

  pub twice_u0 : (z s1 t wi a0 a1 c1 f4 r s0 R s3 S3 B1 d c n0 : A) → r ≡ wi * s1 → s0 ≡ t * s1 * z → R ≡ z * r → s3 ≡ s1 * z → S3 ≡ s3 * s3 → B1 ≡ z * c1 → d ≡ z * (a1 + a1 - f4) → c ≡ s1 * (B1 + B1) + r * d → n0 ≡ s0 * s0 + R * c
      → n0 ≡ S3 * ((t - a1) * (t - (a1 - a1)) - a0 + (a1 * t + a0) + (c1 + c1) * wi + (a1 + a1 + (a1 - a1) - f4) * (wi * wi))
  twice_u0 z s1 t wi a0 a1 c1 f4 r s0 R s3 S3 B1 d c n0 h-r h-s0 h-R h-s3 h-S3 h-B1 h-d h_c h-n0 =
      simp (h-n0, h_c, h-d, h-B1, h-S3, h-s3, h-R, h-s0, h-r) (ring F (z ∷ s1 ∷ t ∷ wi ∷ a0 ∷ a1 ∷ c1 ∷ f4 ∷ []) (search quote depth 40) refl)

  -- ---- the new v: l = (x + t)·u with v, then v' of any new u
  pub line_3 : (z s1 t a1 k1 s0 s3 S3 A1 T n1 l3 : A) → s0 ≡ t * s1 * z → s3 ≡ s1 * z → S3 ≡ s3 * s3 → A1 ≡ z * a1 → T ≡ s1 * A1 → n1 ≡ S3 * k1 → l3 ≡ s3 * (T + s0) - n1
      → l3 ≡ S3 * (a1 + t - k1)
  line_3 z s1 t a1 k1 s0 s3 S3 A1 T n1 l3 h-s0 h-s3 h-S3 h-A1 h-T h-n1 h-l3 =
      simp (h-l3, h-n1, h-T, h-A1, h-S3, h-s3, h-s0) (ring F (z ∷ s1 ∷ t ∷ a1 ∷ k1 ∷ []) (search quote depth 40) refl)

  pub line_0 : (z s1 t wi a0 c0 r s0 R s3 S3 A0 B0 j0 : A) → r ≡ wi * s1 → s0 ≡ t * s1 * z → R ≡ z * r → s3 ≡ s1 * z → S3 ≡ s3 * s3 → A0 ≡ z * a0 → B0 ≡ z * c0 → j0 ≡ s1 * (s0 * A0 + R * B0)
      → j0 ≡ S3 * (a0 * t + wi * c0)
  line_0 z s1 t wi a0 c0 r s0 R s3 S3 A0 B0 j0 h-r h-s0 h-R h-s3 h-S3 h-A0 h-B0 h-j0 =
      simp (h-j0, h-B0, h-A0, h-S3, h-s3, h-R, h-s0, h-r) (ring F (z ∷ s1 ∷ t ∷ wi ∷ a0 ∷ c0 ∷ []) (search quote depth 40) refl)

  pub line_1 : (z s1 t wi a0 a1 c1 r s0 R s3 S3 A1 A0 B1 T j1 : A) → r ≡ wi * s1 → s0 ≡ t * s1 * z → R ≡ z * r → s3 ≡ s1 * z → S3 ≡ s3 * s3 → A1 ≡ z * a1 → A0 ≡ z * a0 → B1 ≡ z * c1 → T ≡ s1 * A1 → j1 ≡ s0 * T + s1 * (R * B1 + s3 * A0)
      → j1 ≡ S3 * (a1 * t + a0 + wi * c1)
  line_1 z s1 t wi a0 a1 c1 r s0 R s3 S3 A1 A0 B1 T j1 h-r h-s0 h-R h-s3 h-S3 h-A1 h-A0 h-B1 h-T h-j1 =
      simp (h-j1, h-T, h-B1, h-A0, h-A1, h-S3, h-s3, h-R, h-s0, h-r) (ring F (z ∷ s1 ∷ t ∷ wi ∷ a0 ∷ a1 ∷ c1 ∷ []) (search quote depth 40) refl)

  pub new_v0 : (z s1 wi w c0 k0 j q r R s3 Ra S3 Z n0 j0 l3 V0 : A) → r ≡ wi * s1 → R ≡ z * r → s3 ≡ s1 * z → Ra ≡ R * s3 → S3 ≡ s3 * s3 → Z ≡ Ra * S3 → n0 ≡ S3 * k0 → j0 ≡ S3 * (j + wi * c0) → l3 ≡ S3 * q → V0 ≡ n0 * l3 - S3 * j0 → w * wi ≡ 𝟙
      → V0 ≡ Z * ((k0 * q - j) * w - c0)
  new_v0 z s1 wi w c0 k0 j q r R s3 Ra S3 Z n0 j0 l3 V0 h-r h-R h-s3 h-Ra h-S3 h-Z h-n0 h-j0 h-l3 h-V0 hw =
      simp (h-V0, h-l3, h-j0, h-n0, h-Z, h-S3, h-Ra, h-s3, h-R, h-r) (by F (neg ((s1 * z) * (s1 * z) * (s1 * z) * (s1 * z) * (k0 * q - j))) hw (ring F (z ∷ s1 ∷ wi ∷ w ∷ c0 ∷ k0 ∷ j ∷ q ∷ []) (search quote depth 40) refl))

  pub new_v1 : (z s1 wi w c1 k0 k1 j q r R s3 Ra S3 Z n0 n1 j1 l3 V1 : A) → r ≡ wi * s1 → R ≡ z * r → s3 ≡ s1 * z → Ra ≡ R * s3 → S3 ≡ s3 * s3 → Z ≡ Ra * S3 → n0 ≡ S3 * k0 → n1 ≡ S3 * k1 → j1 ≡ S3 * (j + wi * c1) → l3 ≡ S3 * q → V1 ≡ n1 * l3 + S3 * (n0 - j1) → w * wi ≡ 𝟙
      → V1 ≡ Z * ((k1 * q + k0 - j) * w - c1)
  new_v1 z s1 wi w c1 k0 k1 j q r R s3 Ra S3 Z n0 n1 j1 l3 V1 h-r h-R h-s3 h-Ra h-S3 h-Z h-n0 h-n1 h-j1 h-l3 h-V1 hw =
      simp (h-V1, h-l3, h-j1, h-n1, h-n0, h-Z, h-S3, h-Ra, h-s3, h-R, h-r) (by F (neg ((s1 * z) * (s1 * z) * (s1 * z) * (s1 * z) * (k1 * q + k0 - j))) hw (ring F (z ∷ s1 ∷ wi ∷ w ∷ c1 ∷ k0 ∷ k1 ∷ j ∷ q ∷ []) (search quote depth 40) refl))

  pub over_z : (Ra S3 k n Z U : A) → n ≡ S3 * k → Z ≡ Ra * S3 → U ≡ Ra * n
      → U ≡ Z * k
  over_z Ra S3 k n Z U h-n h-Z h-U =
      simp (h-U, h-Z, h-n) (ring F (Ra ∷ S3 ∷ k ∷ []) (search quote depth 40) refl)

  -- the last Z: a power of the first ones times r·s1³ of the affine table
  pub last_z : (z k r1 t1 r s1 R s3 Ra S3 Z : A) → r ≡ k * r1 → s1 ≡ k * t1 → R ≡ z * r → s3 ≡ s1 * z → Ra ≡ R * s3 → S3 ≡ s3 * s3 → Z ≡ Ra * S3
      → Z ≡ z * z * z * z * (k * k * k * k) * (r1 * (t1 * t1 * t1))
  last_z z k r1 t1 r s1 R s3 Ra S3 Z h-r h-s1 h-R h-s3 h-Ra h-S3 h-Z =
      simp (h-Z, h-S3, h-Ra, h-s3, h-R, h-s1, h-r) (ring F (z ∷ k ∷ r1 ∷ t1 ∷ []) (search quote depth 40) refl)
