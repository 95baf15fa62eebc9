-- Bytes written over others; a page of an image, and an image with another page in its place.
use Rattle.std.specs.Prelude.{List, ◌++◌, ℕ, ◌*◌, length, take, drop}
use Rattle.geometry.specs.declared.Geometry.{Geometry}

-- b with the bytes xs over those from at on
unfoldable pub overwritten : ℕ → List ℕ → List ℕ → List ℕ
overwritten at xs b = take at b ++ (xs ++ drop (length xs) (drop at b))

-- the bytes of page p: P bytes from p times P on
unfoldable pub page_of : Geometry → ℕ → List ℕ → List ℕ
page_of g p image = take g.size (drop (p * g.size) image)

-- the image with the bytes b in the place of page p
unfoldable pub with_page : Geometry → ℕ → List ℕ → List ℕ → List ℕ
with_page g p b image = take (p * g.size) image ++ (b ++ drop g.size (drop (p * g.size) image))
