use Rattle.std.proofs.Common.{[]}
use Rattle.image_form.specs.Encoding.{magic, version, encode_number, encode_string, encode_table, encode_procedure, encode_range, encode_tag, encode_fd, encode_file, encoding}
use Rattle.image_form.proofs.Puts.{AreAppended, put_more}
use Rattle.image_form.proofs.writing.encoding.Goals as goal

pub returns : goal.returns
unfolding encoding
returns c =
    let p = c.args.parts in
    let empty : AreAppended [] c.new-out.result.items = record { is = c.new-out.ensures.items } in
    let s0 = put_more (encode_number magic) empty c.in_ok-put_number.ensures in
    let s1 = put_more (encode_number version) s0 c.in_ok-put_number-2.ensures in
    let s2 = put_more (encode_number p.fuel) s1 c.in_ok-put_number-3.ensures in
    let s3 = put_more (encode_number p.base) s2 c.in_ok-put_number-4.ensures in
    let s4 = put_more (encode_table encode_number p.words.now) s3 c.in_ok-put_table.ensures in
    let s5 = put_more (encode_table encode_procedure p.procedures.now) s4 c.in_ok-put_table-2.ensures in
    let s6 = put_more (encode_number p.entry) s5 c.in_ok-put_number-5.ensures in
    let s7 = put_more (encode_table encode_range p.ranges.now) s6 c.in_ok-put_table-3.ensures in
    let s8 = put_more (encode_table encode_tag p.tags.now) s7 c.in_ok-put_table-4.ensures in
    let s9 = put_more (encode_table encode_fd p.fds.now) s8 c.in_ok-put_table-5.ensures in
    let s10 = put_more (encode_table encode_file p.files.now) s9 c.in_ok-put_table-6.ensures in
    let s11 = put_more (encode_number p.user) s10 c.in_ok-put_number-6.ensures in
    let s12 = put_more (encode_string p.root.now) s11 c.in_ok-put_string.ensures in
    s12.is
