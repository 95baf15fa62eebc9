-- Document 01, "Packet and chain": chains of pages.
use Rattle.std.specs.Prelude.{not, List, [], ◌∷◌, ◌++◌, ℕ, zero, suc, ◌-◌, ◌/◌, ltb, eqb, take, drop}
use Rattle.geometry.specs.declared.Geometry.{Geometry}
use Rattle.geometry.specs.Choose.{choose}
use Rattle.packet.specs.Packet.{Packet, bad, good, View, view_of, Write, write}
use Rattle.rules.specs.Result.{Res, ok, err, and_then as ◌>>=◌, and_after as ◌>>◌, refuse_unless}
use Rattle.rules.specs.PageSets.{mem}

-- the views in which an image's chains are read, by the kind of chain
pub record Views : Type 0 where
  -- page 0, directories and the bitmap file
  pub pages : View
  -- a file, by its entry's extension byte
  pub file : ℕ → View

-- every chain in one view
abbrev pub one_view : View → Views
one_view v = record { pages = v; file = λ _. v }

-- the views of an image: each of its chains is read as its packets
abbrev pub views_of : Geometry → List ℕ → Views
views_of g image = one_view (view_of g image)

-- one page of a chain: its number and its data bytes
pub data Link : Type 0 where
  link : ℕ → List ℕ → Link

abbrev pub pages : List Link → List ℕ
pages [] = []
pages (link p b ∷ ls) = p ∷ pages ls

-- the start page
abbrev pub first : List Link → ℕ
first [] = 0
first (link p b ∷ ls) = p

-- the bytes of the whole chain
abbrev pub content : List Link → List ℕ
content [] = []
content (link p b ∷ ls) = b ++ content ls

-- the packets of a chain: each points to the next page, 0 ends the chain
abbrev pub linked : List Link → List Write
linked [] = []
linked (link p b ∷ ls) = write p b (first ls) ∷ linked ls

-- a right packet, else fault 2 at that page
pub record Body : Type 0 where
  pub bytes : List ℕ
  pub next : ℕ

unfoldable pub packet_at : View → ℕ → Res Body
packet_at v p = body (v p)
  where
    body : Packet → Res Body
    body bad = err 2 p
    body (good b n) = ok (record { bytes = b; next = n })

-- what a page of a chain must be besides: its place in the chain, its number, its bytes
abbrev pub Test : Type 0
Test = ℕ → ℕ → List ℕ → Res (Unit {0})

-- a file's pages and a bitmap file's: nothing
unfoldable pub any_page : Test
any_page i p b = ok tt

module _ (N : ℕ) (v : View) (test : Test) where
  -- the chain from page p on, whose number stands in page `from`, the i-th of its chain, clear of the claimed pages:
  -- each page's number (6), crossed (7), packet (2), then its test; `fuel` bounds the steps
  unfoldable pub walk : ℕ → ℕ → List ℕ → ℕ → ℕ → Res (List Link)
  walk zero i claimed from p = err 7 p
  walk (suc fuel) i claimed from p = do
    refuse_unless (ltb p N) 6 from
    refuse_unless (not (mem p claimed)) 7 p
    x ← packet_at v p
    test i p x.bytes
    ls ← choose (eqb x.next 0) (ok []) (walk fuel (suc i) (p ∷ claimed) p x.next)
    ok (link p x.bytes ∷ ls)

-- bytes as a chain over pages, all packets full but the last
abbrev pub chain_of : ℕ → List ℕ → List ℕ → List Link
chain_of capacity [] bs = []
chain_of capacity (p ∷ ps) bs = link p (take capacity bs) ∷ chain_of capacity ps (drop capacity bs)

-- the pages that so many bytes need: an empty file takes one
abbrev pub pages_for : ℕ → ℕ → ℕ
pages_for capacity n = suc ((n - 1) / capacity)
