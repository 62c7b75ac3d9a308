mod SizeLemmas
mod RoomLemmas
mod RefusalLaws
mod TableLaws
mod PopLaws
