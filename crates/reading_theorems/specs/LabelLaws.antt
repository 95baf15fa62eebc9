-- Names and extensions: what the test of an entry's label says.
use Rattle.std.specs.Prelude.{◌≡◌, true, false, ◌&&◌, ◌||◌, List, [], ◌∷◌, ℕ, ◌%◌, ◌≤◌, leb}
use Rattle.std.proofs.Common.{arith, leb-true, ltb-true, le-ltb, ne_eqb}
use Rattle.rules.specs.declared.Entry.{Entry}
use Rattle.rules.specs.Result.{ok}
use Rattle.rules.proofs.ResultLaws.{on_refuse, refuse_inv, then_ok, refuse_true}
use Rattle.rules.specs.PageSets.{count, mem}
use Rattle.rules.proofs.PageSetLaws.{same, other, hits}
use Rattle.rules.specs.Names.{signs, name_byte, valid_name, file_number, directory_number, extended}
use Rattle.rules.specs.Check.{judge_label}
use Rattle.geometry.specs.BoolLaws.{both, on_either, right_fails}

-- ---- a name's bytes are below 128
abbrev AtMost : ℕ → List ℕ → Type 0
AtMost m [] = Unit {0}
AtMost m (x ∷ xs) = (x ≤ m) × AtMost m xs

at_most : (m c : ℕ) (xs : List ℕ) → AtMost m xs → 1 ≤ count c xs → c ≤ m
at_most m c [] h k = absurd (omega arith)
at_most m c (x ∷ xs) h k = elim (hits c x) [ same e i ↦ omega arith | other e i ↦ at_most m c xs h.1 (omega arith) ]

name_byte_lem : (c : ℕ) → name_byte c ≡ true → c ≤ 127
unfolding name_byte
name_byte_lem c e = on_either (leb 65 c && leb c 90) ((leb 48 c && leb c 57) || mem c signs) e
    (λ q. omega (arith, leb-true c 90 (both (leb 65 c) (leb c 90) q).1))
    (λ q. on_either (leb 48 c && leb c 57) (mem c signs) q
    (λ r. omega (arith, leb-true c 57 (both (leb 48 c) (leb c 57) r).1))
    (λ r. at_most 127 c signs (omega arith) (ltb-true 0 (count c signs) r)))

-- a valid name is no stamp's
pub name_low : (name : ℕ) → valid_name name ≡ true → name % 256 ≤ 127
unfolding valid_name
name_low name e = name_byte_lem (name % 256) (both _ _ e).0

pub valid_plain : (e : Entry) → valid_name e.name ≡ true → extended e ≡ false
unfolding extended
valid_plain e v = le-ltb 127 (e.name % 256) (name_low e.name v)

-- ---- extension numbers
pub file_no_directory : (x : ℕ) → file_number x ≡ true → directory_number x ≡ false
unfolding file_number directory_number
file_no_directory x e = ne_eqb (x % 128) 127 (λ q. omega (arith, leb-true (x % 128) 99 e))

-- ---- the label
pub label_sound : (p : ℕ) (e : Entry) → judge_label p e ≡ ok tt
    → (valid_name e.name ≡ true) × (directory_number e.extension ≡ false → file_number e.extension ≡ true)
unfolding judge_label
label_sound p e q = on_refuse _ _ _ _ _ q λ g₁ q. (g₁, right_fails _ _ (refuse_inv _ _ _ _ q))

pub label_complete : (p : ℕ) (e : Entry) → valid_name e.name ≡ true → (file_number e.extension || directory_number e.extension) ≡ true
    → judge_label p e ≡ ok tt
unfolding judge_label
label_complete p e v x = simp (v, x, refuse_true, then_ok)
