-- Document 01, "Packet and chain": the packet of a page, an image as its packets, and a packet written.
use Rattle.std.specs.Prelude.{Bool, true, false, ◌&&◌, List, [], ◌∷◌, ◌++◌, ℕ, ◌+◌, ◌-◌, leb, eqb, length, get_or, take, drop}
use Rattle.crc16.specs.Crc16.{crc16}
use Rattle.geometry.specs.declared.Geometry.{Geometry}
use Rattle.geometry.specs.Choose.{choose}
use Rattle.geometry.specs.Number.{number, number_bytes}
use Rattle.geometry.specs.Page.{page_of, with_page}

-- a packet: its data bytes and its continuation pointer; or none that is right
pub data Packet : Type 0 where
  bad : Packet
  good : List ℕ → ℕ → Packet

-- the check: CRC-16, started with the page number, over length byte and data, inverted
unfoldable pub check_of : ℕ → List ℕ → ℕ
check_of p bytes = 65535 - crc16 p bytes

-- the continuation pointer of a packet of len bytes: its last n bytes
unfoldable pub pointer_of : ℕ → ℕ → List ℕ → ℕ
pointer_of n len page = number (take n (drop (len + 1 - n) page))

-- the length runs from n to P - 3, and the two check bytes, low byte first, are right
unfoldable pub is_packet : ℕ → ℕ → List ℕ → Bool
is_packet n p page =
    let len = get_or page 0 0 in
    leb n len && (leb (len + 3) (length page) && eqb (number (take 2 (drop (len + 1) page))) (check_of p (take (len + 1) page)))

-- the packet in page p: length byte, that many bytes, two check bytes; the rest of the page is unused
unfoldable pub packet_of : ℕ → ℕ → List ℕ → Packet
packet_of n p page =
    let len = get_or page 0 0 in
    choose (is_packet n p page) (good (take (len - n) (drop 1 page)) (pointer_of n len page)) bad

-- an image as its packets, by page number
abbrev pub View : Type 0
View = ℕ → Packet

unfoldable pub view_of : Geometry → List ℕ → View
view_of g image p = packet_of g.width p (page_of g p image)

-- length byte, data and pointer of a packet
abbrev pub packet_body : ℕ → List ℕ → ℕ → List ℕ
packet_body n bytes next = (length bytes + n) ∷ (bytes ++ number_bytes n next)

-- the bytes of a packet in page p
unfoldable pub packet_bytes : ℕ → ℕ → List ℕ → ℕ → List ℕ
packet_bytes n p bytes next = packet_body n bytes next ++ number_bytes 2 (check_of p (packet_body n bytes next))

-- in a page written only packet bytes change
unfoldable pub written : ℕ → ℕ → List ℕ → ℕ → List ℕ → List ℕ
written n p bytes next page = packet_bytes n p bytes next ++ drop (length (packet_bytes n p bytes next)) page

-- a page write: page number, data bytes, pointer
pub data Write : Type 0 where
  write : ℕ → List ℕ → ℕ → Write

-- the image after a page write
unfoldable pub write_page : Geometry → Write → List ℕ → List ℕ
write_page g (write p bytes next) image = with_page g p (written g.width p bytes next (page_of g p image)) image

-- the image after a list of page writes, the first one first
unfoldable pub after_writes : Geometry → List Write → List ℕ → List ℕ
after_writes g [] image = image
after_writes g (w ∷ ws) image = after_writes g ws (write_page g w image)

-- two lists are equal
abbrev pub same_list : List ℕ → List ℕ → Bool
same_list [] [] = true
same_list [] (y ∷ ys) = false
same_list (x ∷ xs) [] = false
same_list (x ∷ xs) (y ∷ ys) = eqb x y && same_list xs ys

-- a packet has these bytes and this pointer
abbrev pub is_packet_of : Packet → List ℕ → ℕ → Bool
is_packet_of bad b n = false
is_packet_of (good c m) b n = same_list c b && eqb m n

-- the packet of the page would not change
unfoldable pub unchanged : Geometry → Write → List ℕ → Bool
unchanged g (write p b n) image = is_packet_of (view_of g image p) b n

-- the writes that change a packet, in order, each judged on what stands before it
unfoldable pub made : Geometry → List Write → List ℕ → List Write
made g [] image = []
made g (w ∷ ws) image = choose (unchanged g w image) (made g ws image) (w ∷ made g ws (write_page g w image))
