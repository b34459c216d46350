-- Spaces.
use Rattle.std.proofs.Common.{◌≡◌, ℕ, ◌≤◌, take, replicate}
use Rattle.std.proofs.lemmas.List.{take-replicate}

pub spaces : (n : ℕ) → n ≤ 40 → take {A = ℕ} n (replicate {A = ℕ} 40 32) ≡ replicate {A = ℕ} n 32
spaces n few = take-replicate {X = ℕ} n 40 32 few
