-- The prefixes of a map as a set.
use Rattle.std.proofs.Common.{◌≡◌, ℕ, ◌+◌, Bool, true, false, cond, ◌||◌, List, refl, sym, ap, ◌∙◌}
use Rattle.std.specs.List.{list_any}
use Rattle.std.specs.Ordering.{nat_cmp, eq_by_cmp}
use Rattle.std.specs.Cmp.{Equal-is}
use Rattle.std.specs.Cmp.Lexicographic.{slice_cmp, nat_list_cmp_total, texts_ties}
use Rattle.std.specs.FinSet as set
use Rattle.named_rows.specs.Rows.{PrefixSet, is_among}

pub prefixes_apart : set.IsAntisymmetric (slice_cmp nat_cmp)
prefixes_apart = set.slice_cmp-IsAntisymmetric set.nat_cmp-IsAntisymmetric

-- a list is looked through by either test
pub by_order : (prefix : List ℕ) (prefixes : List (List ℕ)) → list_any (eq_by_cmp (slice_cmp nat_cmp) prefix) prefixes ≡ is_among prefixes prefix
by_order prefix prefixes j = list_any (λ p. sym (texts_ties prefix p) j) prefixes

pub len_more : (prefixes : PrefixSet) (prefix : List ℕ) → set.contains prefixes prefix ≡ false → set.len (set.insert prefixes prefix) ≡ set.len prefixes + 1
len_more prefixes prefix new = set.len-insert nat_list_cmp_total prefixes prefix ∙ ap (λ b. cond b (set.len prefixes) (set.len prefixes + 1)) new

-- a prefix that is there already
pub there_again : (prefixes : PrefixSet) (prefix : List ℕ) → set.contains prefixes prefix ≡ true → set.insert prefixes prefix ≡ prefixes
there_again prefixes prefix there = set.same_set nat_list_cmp_total prefixes_apart (set.insert prefixes prefix) prefixes has
  where
    known : (q : List ℕ) (b : Bool) → eq_by_cmp (slice_cmp nat_cmp) q prefix ≡ b → (b || set.contains prefixes q) ≡ set.contains prefixes q
    known q true same = sym (sym (set.contains_tied nat_list_cmp_total prefixes q prefix ((Equal-is (slice_cmp nat_cmp q prefix)).0 same)) ∙ there)
    known q false other = refl

    has : (q : List ℕ) → set.contains (set.insert prefixes prefix) q ≡ set.contains prefixes q
    has q = set.contains-insert nat_list_cmp_total prefixes prefix q ∙ known q (eq_by_cmp (slice_cmp nat_cmp) q prefix) refl
