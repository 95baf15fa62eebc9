-- The rules that the examples compute with: an example opens them all by one name.
use Rattle.crc16.specs.Crc16.{flip_bit, bit_step, bit_steps, byte_step, crc16}
use Rattle.geometry.specs.Choose.{choose}
use Rattle.geometry.specs.Geometry.{width_for, right, geometry_of, data_capacity, entry_size, control_size, first_entries, later_entries, bitmap_size}
use Rattle.geometry.specs.Page.{page_of, with_page}
use Rattle.packet.specs.Packet.{check_of, pointer_of, is_packet, packet_of, view_of, packet_bytes, written, write_page, after_writes, unchanged, made}
use Rattle.rules.specs.Result.{and_then, refuse_unless}
use Rattle.rules.specs.PageSets.{hit, free_pages}
use Rattle.rules.specs.Chain.{packet_at, any_page, walk}
use Rattle.rules.specs.Names.{name_byte, valid_name, file_number, directory_number, extended}
use Rattle.rules.specs.Tree.{width}
use Rattle.rules.specs.Control.{marker, root_control, sub_control, head_of, whole_entries, root_page, sub_page}
use Rattle.rules.specs.Bitmap.{bit_at, lowest_difference, bitmap_from}
use Rattle.rules.specs.Check.{judge_bits, followed, judge_label, judge_file, judge_entry, judge_entries, judge_directory, judge_sub, judge_map_file, judge_map, scan_with, scan, check}
use Rattle.rules.specs.Owners.{record_bytes, table_with, table_after}
use Rattle.rules.specs.Listing.{line_at}
use Rattle.rules.specs.Paths.{path_of, directory_path_of, directory_at, target_at, shown}
use Rattle.rules.specs.Writes.{edited, edit_writes}
use Rattle.rules.specs.Format.{empty_image, format_writes, format}
use Rattle.rules.specs.Put.{writable, put_target, kept_pages, extra_pages, items_after, put_edit, plain_edit, put_at}
use Rattle.rules.specs.Delete.{present, delete_target, delete_edit, remove_at}
use Rattle.rules.specs.Directories.{vacant, make_target, present_directory, shown_directory, without_entries, removal_target}
use Rattle.rules.specs.Careful.{halted_at, both_marked, careful_writes, careful_put, careful_delete, all_mendable, unowned, mend_writes, mend}

unfoldable pub rules : Unit {0}
unfolding flip_bit bit_step bit_steps byte_step crc16 choose width_for right geometry_of data_capacity entry_size control_size first_entries later_entries bitmap_size page_of with_page
    check_of pointer_of is_packet packet_of view_of packet_bytes written write_page after_writes unchanged made and_then refuse_unless hit free_pages packet_at any_page walk
    name_byte valid_name file_number directory_number extended width marker root_control sub_control head_of whole_entries root_page sub_page bit_at lowest_difference bitmap_from
    judge_bits followed judge_label judge_file judge_entry judge_entries judge_directory judge_sub judge_map_file judge_map scan_with scan check record_bytes table_with table_after line_at
    path_of directory_path_of directory_at target_at shown edited edit_writes empty_image format_writes format writable put_target kept_pages extra_pages items_after put_edit plain_edit put_at
    present delete_target delete_edit remove_at vacant make_target present_directory shown_directory without_entries removal_target halted_at both_marked careful_writes careful_put careful_delete all_mendable unowned mend_writes mend
rules = tt
