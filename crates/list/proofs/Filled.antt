-- The bytes that a read gives stand behind those read before.
use Rattle.std.specs.Prelude.{◌≡◌, Option, None, Some, List, ◌++◌, ℕ, ◌+◌, ◌≤◌, length, take}
use Rattle.std.proofs.Common.{refl, sym, ap, ◌∙◌, subst, append_assoc, arith, length-take-le, take-take}
use Rattle.std.proofs.lemmas.Slice.{take-put_mid}
use Rattle.std.specs.Io.KnownBytes.{Consumes}
use lib.Seq.{take-append-add}
use borrow.Rule.Slice.PartMut.{put_mid}

front : (a n k : ℕ) (xs ys : List ℕ) → a ≤ length xs → n ≤ length ys → take (a + n) (put_mid a k xs ys) ≡ take a xs ++ take n ys
front a n k xs ys p q =
    sym (take-take (a + n) (a + length ys) (put_mid a k xs ys) (omega (arith, q))) ∙ ap (take (a + n)) (take-put_mid a k xs ys (a + length ys) refl p)
    ∙ ap (λ m. take (m + n) (take a xs ++ ys)) (sym (length-take-le a xs p)) ∙ take-append-add (take a xs) ys n

both : (old mid new : Option (List ℕ)) (bs cs : List ℕ) → Consumes old mid bs → Consumes mid new cs → Consumes old new (bs ++ cs)
both None mid new bs cs p q = tt
both (Some x) None new bs cs p q = absurd p
both (Some x) (Some y) None bs cs p q = absurd q
both (Some x) (Some y) (Some z) bs cs p q = p ∙ ap (λ l. bs ++ l) q ∙ sym (append_assoc bs cs z)

pub read_more : (old mid new : Option (List ℕ)) (a n k : ℕ) (xs ys : List ℕ) → a ≤ length xs → n ≤ length ys → Consumes old mid (take a xs) → Consumes mid new (take n ys)
    → Consumes old new (take (a + n) (put_mid a k xs ys))
read_more old mid new a n k xs ys p q c d = subst (Consumes old new) (sym (front a n k xs ys p q)) (both old mid new _ _ c d)
