-- Steps that are taken one after another.
use Rattle.std.proofs.Common.{◌≡◌, ◌+◌, ◌*◌, ◌≤◌, ℕ, arith}

pub five_rise : (s0 s1 s2 s3 s4 s5 a b x g t : ℕ) → s1 ≡ s0 + a → s2 ≡ s1 + b → s3 ≡ s2 + x → s4 ≡ s3 + g → s5 ≡ s4 + t → s0 ≤ s5
five_rise s0 s1 s2 s3 s4 s5 a b x g t ea eb ex eg et = omega arith

-- a run: the history is read and written, and so is the last column, around the steps of the code
pub run_cost : (s0 s1 s2 s3 s4 s5 a b x h r w more : ℕ) → a ≡ h → b ≡ r → s1 ≡ s0 + a → s2 ≡ s1 + b → s3 ≡ s2 + x → s4 ≡ s3 + a
    → s5 ≡ s4 + b * w → s5 ≤ s0 + (2 * h + x + (r + r * w) + more)
run_cost s0 s1 s2 s3 s4 s5 a b x h r w more eh er ea eb ex eg et =
    let last : s5 ≡ s4 + r * w = rw er at et in omega arith

-- the variables are gathered, mapped and scattered, and then the history is
pub carry_rises : (s0 s1 s2 s3 s4 a m h : ℕ) → s1 ≡ s0 + a → s2 ≡ s1 + m * m + m → s3 ≡ s2 + a → s4 ≡ s3 + h → s0 ≤ s4
carry_rises s0 s1 s2 s3 s4 a m h eg em es eh = omega arith

pub carry_cost : (s0 s1 s2 s3 s4 a r b h : ℕ) → a ≡ r → b ≡ h → s1 ≡ s0 + a → s2 ≡ s1 + a * a + a → s3 ≡ s2 + a → s4 ≡ s3 + b
    → s4 ≡ s0 + (r * r + 3 * r + h)
carry_cost s0 s1 s2 s3 s4 a r b h er eb eg em es eh =
    let mapped : s2 ≡ s1 + r * r + r = rw er at em in omega arith
