-- Document 02, A4: the careful put, the careful delete and the mend.
use Rattle.std.specs.Prelude.{Bool, true, false, ◌&&◌, List, ◌++◌, ℕ, zero, suc, ◌+◌, ◌-◌, ◌*◌, min, eqb, ltb, leb, length, take}
use Rattle.geometry.specs.declared.Geometry.{Geometry}
use Rattle.geometry.specs.Choose.{choose}
use Rattle.packet.specs.Packet.{Write, after_writes, made}
use Rattle.rules.specs.declared.WriteCount.{WriteCount}
use Rattle.rules.specs.Result.{Res, ok, err, and_then as ◌>>=◌, and_after as ◌>>◌, refuse_unless}
use Rattle.rules.specs.PageSets.{bit, mem, free_pages}
use Rattle.rules.specs.Chain.{views_of}
use Rattle.rules.specs.Tree.{Image, used}
use Rattle.rules.specs.Bitmap.{bit_at, lowest_difference, bitmap_of}
use Rattle.rules.specs.Check.{scan, check}
use Rattle.rules.specs.Writes.{map_writes, Edit, edited, edit_writes}
use Rattle.rules.specs.Put.{put_target, put_edit}
use Rattle.rules.specs.Delete.{delete_target, delete_edit}
use Rattle.rules.specs.Calls.{Effect, effective}

-- ordered page writes of which at most k may be made: the first k of those that change a packet; how many they are, and whether any are left
unfoldable pub halted_at : Geometry → ℕ → List Write → List ℕ → Effect WriteCount
halted_at g k ws image =
    let all = made g ws image in
    record { answer = record { made = min k (length all); left = ltb k (length all) }; image = after_writes g (take k all) image }

-- the bitmap's bytes that mark the pages in use before an edit and those in use after it
unfoldable pub both_marked : Geometry → Image → Image → List ℕ
both_marked g i j = bitmap_of g (used i ++ used j) i.map

-- the ordered page writes of a careful edit of the directory that the names lead to
unfoldable pub careful_writes : Geometry → List ℕ → Edit → Image → List Write
careful_writes g names e i = let j = edited g names e i in edit_writes g (both_marked g i j) e i j

-- careful put: as put, but the replaced chain is not free
unfoldable pub careful_put : Geometry → ℕ → List ℕ → List ℕ → List ℕ → Res (Effect WriteCount)
careful_put g k path bytes image = do
  i ← check g (views_of g image)
  x ← put_target path i.tree
  e ← put_edit g (free_pages (used i) g.pages) x.to bytes x.place
  ok (halted_at g k (careful_writes g x.to.directories e i) image)

-- careful delete: as delete
unfoldable pub careful_delete : Geometry → ℕ → List ℕ → List ℕ → Res (Effect WriteCount)
careful_delete g k path image = do
  i ← check g (views_of g image)
  x ← delete_target path i.tree
  ok (halted_at g k (careful_writes g x.to.directories (delete_edit x.to x.place) i) image)

-- a bit that a mend can take: a page in use is marked, and no bit from N up is set
abbrev pub mendable : ℕ → List ℕ → List ℕ → ℕ → Bool
mendable N raw in_use k = choose (ltb k N) (leb (bit (mem k in_use)) (bit_at raw k)) (eqb (bit_at raw k) 0)

-- all of the n bits from k on
unfoldable pub all_mendable : ℕ → List ℕ → List ℕ → ℕ → ℕ → Bool
all_mendable N raw in_use k zero = true
all_mendable N raw in_use k (suc n) = mendable N raw in_use k && all_mendable N raw in_use (k + 1) n

-- how many of the n pages from k on are marked and in no chain
unfoldable pub unowned : List ℕ → List ℕ → ℕ → ℕ → ℕ
unowned raw in_use k zero = 0
unowned raw in_use k (suc n) = (bit_at raw k - bit (mem k in_use)) + unowned raw in_use (k + 1) n

-- the bitmap's pages with the pages in use
unfoldable pub mend_writes : Geometry → Image → List Write
mend_writes g i = map_writes g (bitmap_of g (used i) i.map) i.tree i.map

-- mend: the first half of the check; 13, with the check's page, only where a page in use is unmarked or a bit from N up is set; else the marks without an owner are cleared
unfoldable pub mend : Geometry → List ℕ → Res (Effect ℕ)
mend g image = do
  s ← scan g (views_of g image)
  let bits = 8 * length s.raw
  refuse_unless (all_mendable g.pages s.raw (used s.image) 0 bits) 13 (lowest_difference s.raw (used s.image) 0 bits)
  ok (record { answer = unowned s.raw (used s.image) 0 bits; image = after_writes g (mend_writes g s.image) image })

-- ---- the calls: for every input the answer and all lent memory afterwards
module _ (P N : ℕ) (image table : List ℕ) where
  unfoldable pub careful_put_call : ℕ → List ℕ → List ℕ → Res WriteCount × List ℕ × List ℕ
  careful_put_call k path bytes = effective P N image table (λ g. careful_put g k path bytes image)

  unfoldable pub careful_delete_call : ℕ → List ℕ → Res WriteCount × List ℕ × List ℕ
  careful_delete_call k path = effective P N image table (λ g. careful_delete g k path image)

  unfoldable pub mend_call : Res ℕ × List ℕ × List ℕ
  mend_call = effective P N image table (λ g. mend g image)

-- in a refusal the counts are 0 and no write is left
abbrev pub no_writes : WriteCount
no_writes = record { made = 0; left = false }

abbrev pub count_of : Res WriteCount → WriteCount
count_of (ok c) = c
count_of (err n p) = no_writes

abbrev pub cleared_of : Res ℕ → ℕ
cleared_of (ok n) = n
cleared_of (err n p) = 0
