use Rattle.std.proofs.Common.{refl, arith}
use Rattle.dw_read.proofs.KindLaws.{kind_is, kind_none}
use Rattle.dw_read.proofs.kind.kind_of.Goals as goal

pub returns-in_default-clause-is : goal.returns-in_default-clause-is
returns-in_default-clause-is c = kind_none _ _ (omega arith)

pub returns-in-DW_FORM_addr-clause-is : goal.returns-in-DW_FORM_addr-clause-is
returns-in-DW_FORM_addr-clause-is c = kind_is _ _ 1 _ (omega arith) refl

pub returns-in-DW_FORM_block1-clause-is : goal.returns-in-DW_FORM_block1-clause-is
returns-in-DW_FORM_block1-clause-is c = kind_is _ _ 10 _ (omega arith) refl

pub returns-in-DW_FORM_block2-clause-is : goal.returns-in-DW_FORM_block2-clause-is
returns-in-DW_FORM_block2-clause-is c = kind_is _ _ 3 _ (omega arith) refl

pub returns-in-DW_FORM_block4-clause-is : goal.returns-in-DW_FORM_block4-clause-is
returns-in-DW_FORM_block4-clause-is c = kind_is _ _ 4 _ (omega arith) refl

pub returns-in-DW_FORM_block-clause-is : goal.returns-in-DW_FORM_block-clause-is
returns-in-DW_FORM_block-clause-is c = kind_is _ _ 9 _ (omega arith) refl

pub returns-in-DW_FORM_block-2-clause-is : goal.returns-in-DW_FORM_block-2-clause-is
returns-in-DW_FORM_block-2-clause-is c = kind_is _ _ 24 _ (omega arith) refl

pub returns-in-DW_FORM_data1-clause-is : goal.returns-in-DW_FORM_data1-clause-is
returns-in-DW_FORM_data1-clause-is c = kind_is _ _ 11 _ (omega arith) refl

pub returns-in-DW_FORM_data1-2-clause-is : goal.returns-in-DW_FORM_data1-2-clause-is
returns-in-DW_FORM_data1-2-clause-is c = kind_is _ _ 12 _ (omega arith) refl

pub returns-in-DW_FORM_data1-3-clause-is : goal.returns-in-DW_FORM_data1-3-clause-is
returns-in-DW_FORM_data1-3-clause-is c = kind_is _ _ 17 _ (omega arith) refl

pub returns-in-DW_FORM_data1-4-clause-is : goal.returns-in-DW_FORM_data1-4-clause-is
returns-in-DW_FORM_data1-4-clause-is c = kind_is _ _ 37 _ (omega arith) refl

pub returns-in-DW_FORM_data1-5-clause-is : goal.returns-in-DW_FORM_data1-5-clause-is
returns-in-DW_FORM_data1-5-clause-is c = kind_is _ _ 41 _ (omega arith) refl

pub returns-in-DW_FORM_data2-clause-is : goal.returns-in-DW_FORM_data2-clause-is
returns-in-DW_FORM_data2-clause-is c = kind_is _ _ 5 _ (omega arith) refl

pub returns-in-DW_FORM_data2-2-clause-is : goal.returns-in-DW_FORM_data2-2-clause-is
returns-in-DW_FORM_data2-2-clause-is c = kind_is _ _ 18 _ (omega arith) refl

pub returns-in-DW_FORM_data2-3-clause-is : goal.returns-in-DW_FORM_data2-3-clause-is
returns-in-DW_FORM_data2-3-clause-is c = kind_is _ _ 38 _ (omega arith) refl

pub returns-in-DW_FORM_data2-4-clause-is : goal.returns-in-DW_FORM_data2-4-clause-is
returns-in-DW_FORM_data2-4-clause-is c = kind_is _ _ 42 _ (omega arith) refl

pub returns-in-DW_FORM_strx3-clause-is : goal.returns-in-DW_FORM_strx3-clause-is
returns-in-DW_FORM_strx3-clause-is c = kind_is _ _ 39 _ (omega arith) refl

pub returns-in-DW_FORM_strx3-2-clause-is : goal.returns-in-DW_FORM_strx3-2-clause-is
returns-in-DW_FORM_strx3-2-clause-is c = kind_is _ _ 43 _ (omega arith) refl

pub returns-in-DW_FORM_data4-clause-is : goal.returns-in-DW_FORM_data4-clause-is
returns-in-DW_FORM_data4-clause-is c = kind_is _ _ 6 _ (omega arith) refl

pub returns-in-DW_FORM_data4-2-clause-is : goal.returns-in-DW_FORM_data4-2-clause-is
returns-in-DW_FORM_data4-2-clause-is c = kind_is _ _ 19 _ (omega arith) refl

pub returns-in-DW_FORM_data4-3-clause-is : goal.returns-in-DW_FORM_data4-3-clause-is
returns-in-DW_FORM_data4-3-clause-is c = kind_is _ _ 28 _ (omega arith) refl

pub returns-in-DW_FORM_data4-4-clause-is : goal.returns-in-DW_FORM_data4-4-clause-is
returns-in-DW_FORM_data4-4-clause-is c = kind_is _ _ 40 _ (omega arith) refl

pub returns-in-DW_FORM_data4-5-clause-is : goal.returns-in-DW_FORM_data4-5-clause-is
returns-in-DW_FORM_data4-5-clause-is c = kind_is _ _ 44 _ (omega arith) refl

pub returns-in-DW_FORM_data8-clause-is : goal.returns-in-DW_FORM_data8-clause-is
returns-in-DW_FORM_data8-clause-is c = kind_is _ _ 7 _ (omega arith) refl

pub returns-in-DW_FORM_data8-2-clause-is : goal.returns-in-DW_FORM_data8-2-clause-is
returns-in-DW_FORM_data8-2-clause-is c = kind_is _ _ 20 _ (omega arith) refl

pub returns-in-DW_FORM_data8-3-clause-is : goal.returns-in-DW_FORM_data8-3-clause-is
returns-in-DW_FORM_data8-3-clause-is c = kind_is _ _ 36 _ (omega arith) refl

pub returns-in-DW_FORM_data8-4-clause-is : goal.returns-in-DW_FORM_data8-4-clause-is
returns-in-DW_FORM_data8-4-clause-is c = kind_is _ _ 32 _ (omega arith) refl

pub returns-in-DW_FORM_data16-clause-is : goal.returns-in-DW_FORM_data16-clause-is
returns-in-DW_FORM_data16-clause-is c = kind_is _ _ 30 _ (omega arith) refl

pub returns-in-DW_FORM_string-clause-is : goal.returns-in-DW_FORM_string-clause-is
returns-in-DW_FORM_string-clause-is c = kind_is _ _ 8 _ (omega arith) refl

pub returns-in-DW_FORM_sdata-clause-is : goal.returns-in-DW_FORM_sdata-clause-is
returns-in-DW_FORM_sdata-clause-is c = kind_is _ _ 13 _ (omega arith) refl

pub returns-in-DW_FORM_udata-clause-is : goal.returns-in-DW_FORM_udata-clause-is
returns-in-DW_FORM_udata-clause-is c = kind_is _ _ 15 _ (omega arith) refl

pub returns-in-DW_FORM_udata-2-clause-is : goal.returns-in-DW_FORM_udata-2-clause-is
returns-in-DW_FORM_udata-2-clause-is c = kind_is _ _ 21 _ (omega arith) refl

pub returns-in-DW_FORM_udata-3-clause-is : goal.returns-in-DW_FORM_udata-3-clause-is
returns-in-DW_FORM_udata-3-clause-is c = kind_is _ _ 26 _ (omega arith) refl

pub returns-in-DW_FORM_udata-4-clause-is : goal.returns-in-DW_FORM_udata-4-clause-is
returns-in-DW_FORM_udata-4-clause-is c = kind_is _ _ 27 _ (omega arith) refl

pub returns-in-DW_FORM_loclistx-clause-is : goal.returns-in-DW_FORM_loclistx-clause-is
returns-in-DW_FORM_loclistx-clause-is c = kind_is _ _ 34 _ (omega arith) refl

pub returns-in-DW_FORM_loclistx-2-clause-is : goal.returns-in-DW_FORM_loclistx-2-clause-is
returns-in-DW_FORM_loclistx-2-clause-is c = kind_is _ _ 35 _ (omega arith) refl

pub returns-in-DW_FORM_strp-clause-is : goal.returns-in-DW_FORM_strp-clause-is
returns-in-DW_FORM_strp-clause-is c = rw c.word_size-word.ensures (kind_is _ _ 14 _ (omega arith) refl)

pub returns-in-DW_FORM_strp-2-clause-is : goal.returns-in-DW_FORM_strp-2-clause-is
returns-in-DW_FORM_strp-2-clause-is c = rw c.word_size-word.ensures (kind_is _ _ 23 _ (omega arith) refl)

pub returns-in-DW_FORM_strp-3-clause-is : goal.returns-in-DW_FORM_strp-3-clause-is
returns-in-DW_FORM_strp-3-clause-is c = rw c.word_size-word.ensures (kind_is _ _ 29 _ (omega arith) refl)

pub returns-in-DW_FORM_strp-4-clause-is : goal.returns-in-DW_FORM_strp-4-clause-is
returns-in-DW_FORM_strp-4-clause-is c = rw c.word_size-word.ensures (kind_is _ _ 31 _ (omega arith) refl)

pub returns-in-DW_FORM_ref_addr-clause-is : goal.returns-in-DW_FORM_ref_addr-clause-is
returns-in-DW_FORM_ref_addr-clause-is c = rw c.info_place_size-place.ensures (kind_is _ _ 16 _ (omega arith) refl)

pub returns-in-DW_FORM_indirect-clause-is : goal.returns-in-DW_FORM_indirect-clause-is
returns-in-DW_FORM_indirect-clause-is c = kind_is _ _ 22 _ (omega arith) refl

pub returns-in-DW_FORM_flag_present-clause-is : goal.returns-in-DW_FORM_flag_present-clause-is
returns-in-DW_FORM_flag_present-clause-is c = kind_is _ _ 25 _ (omega arith) refl

pub returns-in-DW_FORM_flag_present-2-clause-is : goal.returns-in-DW_FORM_flag_present-2-clause-is
returns-in-DW_FORM_flag_present-2-clause-is c = kind_is _ _ 33 _ (omega arith) refl
