-- Document 01's worked values P1 to P12: one table, one statement. Assumes nothing.
use Rattle.std.proofs.Common.{◌≡◌, map, refl}
use Rattle.region_map.specs.FlatList.{inside, list_gives}
use Rattle.device_words.specs.Bytes.{le, number_by, response_bytes}
use Rattle.device_words.specs.Table.{word_of, words_of, table_of, held_in, bits_in, set_in, all_below, any_below}
use Rattle.device_words.specs.Device.{power_below, setup_ok, tables_ok, device_ok, size_in}
use Rattle.device_words.specs.Request.{bytes_of, answered_by, table_by}
use Rattle.guest_view.specs.Guest.{all_reach, addresses, written}
use Rattle.guest_view.specs.View.{range_ok, entry_ok, view_ok}
use Rattle.memory_device.specs.Host.{pin_block}
use Rattle.memory_device.specs.Request.{carried_into}
use Rattle.memory_device.specs.Calls.{after}
use Rattle.virtqueue.specs.Queue.{areas_ok, queue_ok}
use Rattle.virtqueue.specs.Chain.{visit, follow, end_of, readable, writable, total, first_bytes, shape_of, descriptor_at, fetched, chain_at}
use Rattle.virtqueue.specs.Step.{way_of, used_reached, offer_chain, request_bytes, response_places, used_places, used_bytes, carrying, stepped_by, records_ok, stepped}
use Rattle.virtqueue.specs.Run.{steps_by, ran}
use Rattle.virtqueue.specs.Worked.{Row, rows, device₀, view, queue, memory, answer_to}

pub worked_values : map (λ (r : Row). answer_to r.question) rows ≡ map (λ (r : Row). r.answer) rows
unfolding bytes_of rows device₀ view queue memory answer_to le number_by response_bytes word_of words_of table_of held_in bits_in set_in all_below any_below power_below setup_ok tables_ok device_ok size_in answered_by table_by inside list_gives all_reach addresses written range_ok entry_ok view_ok pin_block carried_into after areas_ok queue_ok visit follow end_of readable writable total first_bytes shape_of descriptor_at fetched chain_at way_of used_reached offer_chain request_bytes response_places used_places used_bytes carrying stepped_by records_ok stepped steps_by ran
worked_values = refl
